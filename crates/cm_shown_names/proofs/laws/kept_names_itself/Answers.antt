use Rattle.cm_shown_names.proofs.Names.{names_itself}
use Rattle.cm_shown_names.proofs.laws.kept_names_itself.Goals as goal

pub returns : goal.returns
returns c k e = names_itself k (c.fault_is_the_first.ensures.kept k e)
