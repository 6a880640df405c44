use Rattle.std.proofs.Common.{◌-◌, false}
use Rattle.cm_class.specs.Reading.{slots_at}
use Rattle.cm_class.proofs.Sinks.{IsSplit}
use Rattle.cm_class.proofs.pool.slots.Given as goal

abbrev pub invariant-loop-index : goal.invariant-loop-index
invariant-loop-index g l =
    IsSplit g.S.Sink.keeps l.slots.items (slots_at l.second (l.count - l.index) l.rest)
    (slots_at false l.count l.bytes)
