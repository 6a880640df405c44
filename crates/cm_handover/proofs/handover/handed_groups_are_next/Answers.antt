use Rattle.cm_handover.proofs.Handed.{handed_may_be_next, committed_is_ahead}
use Rattle.cm_handover.proofs.handover.handed_groups_are_next.Goals as goal

pub returns : goal.returns
returns c = record {
  next = handed_may_be_next;
  committed = committed_is_ahead c.entries_are_steps.ensures.words;
}
