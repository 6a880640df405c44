use Rattle.cm_descriptors.proofs.TypeLaws.{spells_field_type}
use Rattle.cm_descriptors.proofs.laws.field_descriptor_spells_a_type.Goals as goal

pub returns : goal.returns
returns c = spells_field_type
