use Rattle.std.proofs.Common.{◌≡◌}
use Rattle.cm_rows_tests.proofs.samples.offer_each.Given as goal

abbrev pub invariant-loop-at : goal.invariant-loop-at
invariant-loop-at l = l.book.sizes ≡ l.fn.book.sizes
