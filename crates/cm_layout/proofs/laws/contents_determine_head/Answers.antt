use Rattle.cm_layout.proofs.OneHalf.{framings_are_one}
use Rattle.cm_layout.proofs.laws.contents_determine_head.Goals as goal

pub returns : goal.returns
returns c = framings_are_one
