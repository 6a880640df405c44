use Rattle.cm_descriptors.proofs.ClassNameLaws.{is_joined}
use Rattle.cm_descriptors.proofs.laws.class_name_is_joined_names.Goals as goal

pub returns : goal.returns
returns c = is_joined
