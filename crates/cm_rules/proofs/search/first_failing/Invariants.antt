use Rattle.std.proofs.Common.{◌≡◌, Bool, drop}
use Rattle.std.specs.Fn.{FnReturnsAt}
use Rattle.cm_duplicates.specs.Duplicates.{first_failing}
use Rattle.cm_rules.proofs.search.first_failing.Given as goal

abbrev pub invariant-loop-place : goal.invariant-loop-place
invariant-loop-place g l = (test : _ → Bool)
    → ((x : _) (r : Bool) → FnReturnsAt g.F.Fn l.passes x r → r ≡ test x)
    → first_failing (λ _ x. test x) l.place (drop l.place l.items)
    ≡ first_failing (λ _ x. test x) 0 l.items
