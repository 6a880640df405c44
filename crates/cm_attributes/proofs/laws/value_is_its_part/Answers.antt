use Rattle.cm_attributes.proofs.ExactContents.{value_has_part, part_is_value}
use Rattle.cm_attributes.proofs.laws.value_is_its_part.Goals as goal

pub returns-clause-part : goal.returns-clause-part
returns-clause-part c = value_has_part

pub returns-clause-all : goal.returns-clause-all
returns-clause-all c = part_is_value
