-- Arenas of a space with one changed.
-- For `Front::add_loader`, `Front::define`, `Front::restore` and others.
use Rattle.std.proofs.Common.{◌≡◌, ℕ, Bool, true, false, cond, List, Option, Some, None}
use Rattle.std.proofs.Common.{refl, sym, ap, subst, ◌∙◌, eqb, IsSome}
use Rattle.std.specs.Ordering.{nat_cmp, is_eq}
use Rattle.std.specs.Cmp.{nat_cmp_total, eq_by_cmp_equiv, Equal-is}
use Rattle.std.specs.FinMap as map
use Rattle.std.proofs.lemmas.Bool.{eq-eqb}
use Rattle.cm_arena.specs.Chains.{Filled}
use Rattle.cm_space.specs.Space.{SpaceState, IsKnown, with_arena, without_arena}

same_key : (q k : ℕ) → is_eq (nat_cmp q k) ≡ true → q ≡ k
same_key q k e = map.nat_cmp-IsAntisymmetric q k ((Equal-is (nat_cmp q k)).0 e)

true_not : {X : Type 0} → true ≡ false → X
true_not e = absurd (cc)

other_key : (q k : ℕ) → eqb q k ≡ false → is_eq (nat_cmp q k) ≡ false
other_key q k d = by_test (is_eq (nat_cmp q k)) refl
  where
    by_test : (t : Bool) → is_eq (nat_cmp q k) ≡ t → t ≡ false
    by_test true e = true_not (sym (eq-eqb q k (same_key q k e)) ∙ d)
    by_test false e = refl

pub got_same : (s : SpaceState) (k : ℕ) (chain : List Filled)
    → map.get (with_arena s k chain).arenas k ≡ Some chain
got_same s k chain =
    map.get-insert nat_cmp_total s.arenas k chain k
    ∙ ap (λ b. cond b (Some chain) (map.get s.arenas k)) ((eq_by_cmp_equiv nat_cmp_total).refl k)

pub got_other : (s : SpaceState) (k v : ℕ) (chain : List Filled) → eqb v k ≡ false
    → map.get (with_arena s k chain).arenas v ≡ map.get s.arenas v
got_other s k v chain d =
    map.get-insert nat_cmp_total s.arenas k chain v
    ∙ ap (λ b. cond b (Some chain) (map.get s.arenas v)) (other_key v k d)

pub got_none : (s : SpaceState) (k : ℕ) → map.get (without_arena s k).arenas k ≡ None
got_none s k =
    map.get-remove nat_cmp_total s.arenas k k
    ∙ ap (λ b. cond b None (map.get s.arenas k)) ((eq_by_cmp_equiv nat_cmp_total).refl k)

pub got_left : (s : SpaceState) (k v : ℕ) → eqb v k ≡ false
    → map.get (without_arena s k).arenas v ≡ map.get s.arenas v
got_left s k v d =
    map.get-remove nat_cmp_total s.arenas k v
    ∙ ap (λ b. cond b None (map.get s.arenas v)) (other_key v k d)

pub not_known : (s : SpaceState) (k : ℕ) → (IsKnown s k → ⊥) → map.get s.arenas k ≡ None
not_known s k h = by_answer (map.get s.arenas k) refl
  where
    by_answer : (o : Option (List Filled)) → map.get s.arenas k ≡ o → o ≡ None
    by_answer None e = refl
    by_answer (Some chain) e = absurd (h (subst (λ p. IsSome p) (sym e) refl))
