use Rattle.cm_disk.proofs.Choices.{chosen_image}
use Rattle.cm_disk.proofs.laws.chosen_is_an_image.Goals as goal

pub returns : goal.returns
returns c = chosen_image
