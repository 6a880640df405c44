use Rattle.std.proofs.Common.{ℕ, rules}
use Rattle.std.specs.Global.{Vec}
use Rattle.std.proofs.lemmas.Cmp.{nat_list_cmp_total}
use Rattle.std.proofs.lemmas.Fn.{always_returns_same}
use Rattle.std.proofs.lemmas.List.MinMax.{ranks_by}
use Rattle.cm_listed_names.proofs.names.sort.Goals as goal

pub returns-clause-order : goal.returns-clause-order
returns-clause-order c =
    c.sort_unstable_by.ensures.sorted _ (ranks_by nat_list_cmp_total (λ (n : Vec ℕ). n.items))
    (always_returns_same _ _ _ (λ a r q k. search rules))
