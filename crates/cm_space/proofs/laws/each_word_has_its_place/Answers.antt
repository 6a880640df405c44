use Rattle.cm_space.proofs.Owners as owners
use Rattle.cm_space.proofs.laws.each_word_has_its_place.Goals as goal

pub returns : goal.returns
returns c = owners.each_word
