use Rattle.cm_handover.proofs.Changes.{lead_on}
use Rattle.cm_handover.proofs.folding.handed_changes_lead_on.Goals as goal

pub returns : goal.returns
returns c = lead_on c.entries_are_steps.ensures.words
