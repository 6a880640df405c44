-- Writes that are left: what remains of the plan after one of them, and what all of them leave.
-- For `cuts_behind_keep_a_claim`, `gates_turn_claims`, `guarded_claim_holds_of_each_image` and
-- others.
use Rattle.std.proofs.Common.{◌≡◌, ◌≤◌, ◌+◌, ℕ, List, [], ◌∷◌, ◌++◌, length, take, drop, refl, sym}
use Rattle.std.proofs.Common.{◌∙◌, ap, subst, arith}
use Rattle.std.specs.Prelude.{max}
use Rattle.std.proofs.lemmas.List.{length-append, length-take-le, length-drop}
use Rattle.cm_disk.specs.Calls.{overwritten}
use Rattle.cm_disk.proofs.{overwritten_torn}
use Rattle.cm_guards.specs.Guards.{Guard, Guards, Agrees}
use Rattle.cm_guards.specs.Plans.{Write, written, CanWrite}
use Rattle.cm_guards.proofs.Kept.{write_agrees}

pub overwritten_size : (at : ℕ) (bytes old : List ℕ) → at ≤ length old
    → length (overwritten at bytes old) ≡ max (length old) (at + length bytes)
overwritten_size at bytes old le =
    length-append (take at old ++ bytes) (drop (at + length bytes) old)
    ∙ omega (
      arith,
      length-append (take at old) bytes,
      length-take-le at old le,
      length-drop (at + length bytes) old,
    )

-- the first of the writes is made
pub plan_goes_on : (g : Guard) (w : Write) (writes : List Write) (old new : List ℕ)
    → CanWrite g (w ∷ writes) (length old) → new ≡ overwritten w.at w.bytes old
    → CanWrite g writes (length new)
plan_goes_on g w writes old new can e =
    subst (λ (n : ℕ). CanWrite g writes n)
    (sym (ap length e ∙ overwritten_size w.at w.bytes old can.0.starts_within)) can.1

pub written_goes_on : (w : Write) (writes : List Write) (old new : List ℕ)
    → new ≡ overwritten w.at w.bytes old → written (w ∷ writes) old ≡ written writes new
written_goes_on w writes old new e = ap (written writes) (sym e)

-- all of them preserve what is guarded
pub plan_agrees : (g : Guard) (writes : List Write) (old : List ℕ) → g.needs ≤ length old
    → CanWrite g writes (length old) → Agrees g old (written writes old)
plan_agrees g [] old long can = record { long = long; same = λ i guarded. refl }
plan_agrees g (w ∷ writes) old long can =
    let new = overwritten w.at w.bytes old in
    let one = write_agrees g w.at (length w.bytes) old new long can.0.apart
    (overwritten_torn w.at w.bytes old new can.0.starts_within refl) in
    let rest = plan_agrees g writes new one.long (plan_goes_on g w writes old new can refl) in
    record { long = rest.long; same = λ i guarded. one.same i guarded ∙ rest.same i guarded }

pub kept_by_plan : (g : Guard) (P : List ℕ → Type 0) (writes : List Write) (old : List ℕ)
    → Guards g P → g.needs ≤ length old → CanWrite g writes (length old) → P old
    → P (written writes old)
kept_by_plan g P writes old guards long can holds =
    guards.carries old (written writes old) long (plan_agrees g writes old long can) holds
