use Rattle.cm_layout.proofs.StayLive.{live_rows_stay}
use Rattle.cm_layout.proofs.laws.rows_stay_live.Goals as goal

pub returns : goal.returns
returns c = live_rows_stay
