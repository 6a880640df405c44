use Rattle.cm_state.proofs.OneCache.{stand_for_one}
use Rattle.cm_state.proofs.laws.contents_determine_cache.Goals as goal

pub returns : goal.returns
returns c = stand_for_one c.contents_determine_rows.ensures c.layout_determines_class.ensures
