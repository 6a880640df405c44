use Rattle.std.proofs.Common.{◌≡◌, ◌≤◌, ◌-◌, length, take, true}
use Rattle.std.specs.List.{list_all}
use Rattle.cm_constraints.specs.Constants.{in_slot}
use Rattle.cm_rules.specs.Kept.{constant_keeps}
use Rattle.cm_record_rules.proofs.constants.constants_keep.Given as goal

abbrev pub invariant-loop-index : goal.invariant-loop-index
invariant-loop-index l = record {
  within : l.index ≤ length l.class.slots;
  so_far : list_all (in_slot (constant_keeps l.class)) (take l.index l.class.slots) ≡ true;
}

abbrev pub decreases-loop-index : goal.decreases-loop-index
decreases-loop-index l = l.last - l.index
