use Rattle.cm_handover.proofs.Accepted.{accepted_is_ahead}
use Rattle.cm_handover.proofs.Handed.{handed_is_ahead, learnt_is_ahead, failed_is_ahead}
use Rattle.cm_handover.proofs.handover.ahead_stays_ahead.Goals as goal

pub returns : goal.returns
returns c = record {
  accepted = accepted_is_ahead (record {
    tops = c.chains_go_with_rows.ensures.tops;
    chunks = c.chains_go_with_rows.ensures.chunks;
    held = c.held_chunks_come_and_go.ensures.held;
    roots = c.roots_are_free.ensures.held;
    owned = c.held_chunks_are_used.ensures.owned;
    apart = c.chunks_are_apart.ensures.either;
    steps = c.entries_are_steps.ensures.words;
  });
  handed = handed_is_ahead;
  learnt = learnt_is_ahead c.learning_frees_what_is_due.ensures;
  failed = failed_is_ahead;
}
