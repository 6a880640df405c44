use Rattle.std.proofs.Common.{◌-◌}
use Rattle.cm_class.specs.Reading.{many_at, number_at}
use Rattle.cm_class.proofs.Sinks.{IsSplit}
use Rattle.cm_class.proofs.members.many_numbers.Given as goal

abbrev pub invariant-loop : goal.invariant-loop
invariant-loop g l =
    IsSplit g.S.Sink.keeps l.numbers.items (many_at (number_at 2) (l.count - l.counter) l.rest)
    (many_at (number_at 2) l.count l.bytes)
