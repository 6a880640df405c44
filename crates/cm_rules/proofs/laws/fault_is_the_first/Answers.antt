use Rattle.cm_rules.proofs.FirstFault.{is_first, is_kept}
use Rattle.cm_rules.proofs.laws.fault_is_the_first.Goals as goal

pub returns-clause-broken : goal.returns-clause-broken
returns-clause-broken c = is_first

pub returns-clause-kept : goal.returns-clause-kept
returns-clause-kept c = is_kept
