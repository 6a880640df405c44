use Rattle.cm_layout.proofs.OneSlot.{same_entry}
use Rattle.cm_layout.proofs.laws.slot_determines_entry.Goals as goal

pub returns : goal.returns
returns c = same_entry
