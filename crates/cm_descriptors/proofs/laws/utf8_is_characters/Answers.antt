use Rattle.cm_descriptors.proofs.CharacterLaws.{is_characters}
use Rattle.cm_descriptors.proofs.laws.utf8_is_characters.Goals as goal

pub returns : goal.returns
returns c = is_characters
