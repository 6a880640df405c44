use Rattle.std.proofs.Common.{◌-◌}
use Rattle.cm_class.specs.Reading.{many_at, member_at}
use Rattle.cm_class.proofs.Sinks.{IsSplit}
use Rattle.cm_class.proofs.members.many_members.Given as goal

abbrev pub invariant-loop : goal.invariant-loop
invariant-loop g l =
    IsSplit g.S.Sink.keeps l.members.items (many_at member_at (l.count - l.counter) l.rest)
    (many_at member_at l.count l.bytes)
