use Rattle.std.proofs.Common.{◌≡◌, map}
use Rattle.std.specs.List.{range_with_len}
use Rattle.cm_layout.specs.Rows.{classes_in}
use Rattle.cm_statistics.specs.Usage.{usage, of_order}
use Rattle.cm_statistics.proofs.among.usage_by_order.Given as goal

abbrev pub invariant-loop-order : goal.invariant-loop-order
invariant-loop-order l =
    l.list.items ≡ map (λ k. usage (of_order k (classes_in l.rows.rows)))
    (range_with_len 0 l.order)
