use Rattle.cm_maintenance.proofs.Records.{lists_state}
use Rattle.cm_maintenance.proofs.laws.listing_is_state.Goals as goal

pub returns : goal.returns
returns c = lists_state
