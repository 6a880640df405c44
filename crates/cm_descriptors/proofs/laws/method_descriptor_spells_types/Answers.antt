use Rattle.cm_descriptors.proofs.TypeLaws.{spells_method_type, is_spelled}
use Rattle.cm_descriptors.proofs.laws.method_descriptor_spells_types.Goals as goal

pub returns-clause-form : goal.returns-clause-form
returns-clause-form c = is_spelled

pub returns-clause-units : goal.returns-clause-units
returns-clause-units c = spells_method_type
