use Rattle.std.proofs.Common.{◌≡◌, ℕ, List, drop}
use Rattle.std.specs.Ordering.{nat_cmp}
use Rattle.std.specs.Cmp.Lexicographic.{slice_cmp}
use Rattle.cm_record.specs.Runs.{IsRunOf}
use Rattle.cm_record.proofs.order.cmp_runs.Given as goal

abbrev pub invariant-loop-i : goal.invariant-loop-i
invariant-loop-i l = (xs ys : List ℕ) → IsRunOf l.words l.run xs → IsRunOf l.others l.other ys
    → slice_cmp nat_cmp xs ys ≡ slice_cmp nat_cmp (drop l.i xs) (drop l.i ys)
