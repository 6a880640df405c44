use Rattle.cm_layout.proofs.Agreement.{agreement_matches}
use Rattle.cm_layout.proofs.laws.agreement_frames.Goals as goal

pub returns : goal.returns
returns c = agreement_matches
