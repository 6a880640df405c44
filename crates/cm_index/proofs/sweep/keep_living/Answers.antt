use Rattle.std.proofs.Common.{rules}
use Rattle.std.proofs.lemmas.Fn.{filter_same}
use Rattle.cm_index.proofs.sweep.keep_living.Goals as goal

pub returns-clause-index : goal.returns-clause-index
returns-clause-index g c =
    filter_same _ _ _ (λ x b f' k. search rules) _ _ c.retain.ensures.filtered
