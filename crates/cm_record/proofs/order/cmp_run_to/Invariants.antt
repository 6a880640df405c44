use Rattle.std.proofs.Common.{◌≡◌, ℕ, List, drop}
use Rattle.std.specs.Ordering.{nat_cmp}
use Rattle.std.specs.Cmp.Lexicographic.{slice_cmp}
use Rattle.cm_record.specs.Runs.{IsRunOf}
use Rattle.cm_record.proofs.order.cmp_run_to.Given as goal

abbrev pub invariant-loop-i : goal.invariant-loop-i
invariant-loop-i l = (xs : List ℕ) → IsRunOf l.words l.run xs
    → slice_cmp nat_cmp xs l.bytes ≡ slice_cmp nat_cmp (drop l.i xs) (drop l.i l.bytes)
