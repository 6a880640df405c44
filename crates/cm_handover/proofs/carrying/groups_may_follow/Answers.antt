use Rattle.cm_handover.proofs.Carried.{handed_carries_on, joined_carries_on, carried_may_come}
use Rattle.cm_handover.proofs.carrying.groups_may_follow.Goals as goal

pub returns : goal.returns
returns c = record {
  handed = handed_carries_on;
  joined = joined_carries_on;
  next = carried_may_come;
}
