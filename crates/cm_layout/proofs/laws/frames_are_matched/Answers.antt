use Rattle.cm_layout.proofs.Matched.{frames_are_matched, matches_frame}
use Rattle.cm_layout.proofs.laws.frames_are_matched.Goals as goal

pub returns : goal.returns
returns c = record { from = frames_are_matched; to = matches_frame }
