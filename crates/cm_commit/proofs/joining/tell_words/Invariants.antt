use Rattle.std.proofs.Common.{map, drop}
use Rattle.std.specs.Arc.{arc_value}
use Rattle.std.specs.List.{AllByRecursion}
use Rattle.cm_commit.specs.Laws.{AreTold}
use Rattle.cm_commit.proofs.joining.tell_words.Given as goal

abbrev pub invariant-loop-record : goal.invariant-loop-record
invariant-loop-record l =
    AllByRecursion AreTold (map arc_value (drop l.record-index l.records))
    → AllByRecursion AreTold (map arc_value l.records)
