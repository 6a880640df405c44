use Rattle.std.proofs.Common.{rules}
use Rattle.std.proofs.lemmas.Fn.{filter_same}
use Rattle.cm_index.proofs.rows.sweep_slots.Goals as goal

pub returns-clause-slots : goal.returns-clause-slots
returns-clause-slots g c =
    filter_same _ _ _ (λ x b f' k. search rules) _ _ c.retain.ensures.filtered
