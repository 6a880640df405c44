use Rattle.std.proofs.Common.{◌≡◌, true, take}
use Rattle.std.specs.List.{list_all}
use Rattle.cm_rules.specs.Kept.{interface_keeps}
use Rattle.cm_record_rules.proofs.itself.interfaces_keep.Given as goal

abbrev pub invariant-loop-index : goal.invariant-loop-index
invariant-loop-index l =
    list_all (interface_keeps l.class) (take l.index-index l.interfaces) ≡ true
