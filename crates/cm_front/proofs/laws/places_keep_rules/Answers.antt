use Rattle.cm_front.proofs.Places.{places_keep_rules}
use Rattle.cm_front.proofs.laws.places_keep_rules.Goals as goal

pub returns : goal.returns
returns c = places_keep_rules c.held_chunks_are_used.ensures.owned c.roots_are_free.ensures.held
