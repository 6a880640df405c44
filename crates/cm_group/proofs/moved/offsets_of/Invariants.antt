use Rattle.std.proofs.Common.{◌≡◌, ◌++◌, map, drop}
use Rattle.std.specs.Arc.{arc_value}
use Rattle.cm_group.specs.Groups.{offsets_from}
use Rattle.cm_group.proofs.moved.offsets_of.Given as goal

abbrev pub invariant-loop-class : goal.invariant-loop-class
invariant-loop-class l =
    l.offsets.items ++ offsets_from l.next (map arc_value (drop l.class-index l.records))
    ≡ offsets_from 0 (map arc_value l.records)
