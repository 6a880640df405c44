use Rattle.std.proofs.Common.{◌-◌, ◌≤◌}
use Rattle.cm_record_laying.specs.Laying.{LaysSlots}
use Rattle.cm_record_laying.proofs.constants.lay_slots.Given as goal

abbrev pub invariant-loop-left : goal.invariant-loop-left
invariant-loop-left l = record {
  within : l.left ≤ l.count;
  laid : LaysSlots (l.count - l.left) l.bytes l.fn.sections l.sections l.rest;
}

abbrev pub decreases-loop-left : goal.decreases-loop-left
decreases-loop-left l = l.left
