use Rattle.cm_layout.proofs.OneReading.{frames_are_one}
use Rattle.cm_layout.proofs.laws.contents_determine_rows.Goals as goal

pub returns : goal.returns
returns c = frames_are_one
