use Rattle.std.proofs.Common.{◌∷◌, ◌++◌, [], arith, sym, ◌∙◌}
use Rattle.std.proofs.lemmas.List.FromFn.{map-range_with_len_more}
use Rattle.cm_layout.specs.Rows.{classes_in}
use Rattle.cm_statistics.specs.Usage.{usage, of_order}
use Rattle.cm_statistics.proofs.among.usage_by_order.Goals as goal

pub loop-order-preserved : goal.loop-order-preserved
loop-order-preserved c =
    let l = c.loop-order in
    let more = map-range_with_len_more
    (λ k. usage (of_order k (classes_in c.args.rows.now.rows))) 0 l.order l.order
    (omega arith) in
    let pushed = c.in_ok-push.ensures.items in
    let made = c.usage_of.ensures in
    let before = l.invariant in
    pushed ∙ ((λ i. before i ++ made i ∷ []) ∙ sym more)
