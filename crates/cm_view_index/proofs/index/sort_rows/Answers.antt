use Rattle.std.proofs.Common.{rules}
use Rattle.std.proofs.lemmas.Fn.{always_returns_same}
use Rattle.cm_view_index.specs.Order.{key_of}
use Rattle.cm_view_index.proofs.Searching.{ranked}
use Rattle.cm_view_index.proofs.Orders.{keys_total}
use Rattle.cm_view_index.proofs.index.sort_rows.Goals as goal

pub returns-clause-order : goal.returns-clause-order
returns-clause-order c =
    c.sort_unstable_by.ensures.sorted _ (ranked keys_total (key_of c.args.bytes.now))
    (always_returns_same _ _ _ (λ a r q k. search rules))
