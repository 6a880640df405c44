-- Loaders that are unloaded at once: each is live in its turn, and the others stay.
-- On `without_loaders`, `differ`, `are_live`, for crates above.
use Rattle.std.proofs.Common.{◌≡◌, ℕ, Bool, true, false, cond, List, [], ◌∷◌, Some, None, refl}
use Rattle.std.proofs.Common.{ap, ◌∙◌, eqb, is_some}
use Rattle.std.specs.Prelude.{not, ◌&&◌}
use Rattle.std.specs.List.{list_all}
use Rattle.std.proofs.lemmas.Bool.{eqb-true, and_parts}
use Rattle.cm_layout.specs.declared.row.Row.{Row}
use Rattle.cm_layout.specs.declared.row.Row.TheVariants.{Loader, Class}
use Rattle.cm_layout.specs.Rows.{name_of, without_loader}
use Rattle.cm_layout.specs.Rules.{is_live, are_live, differ}

module _ {P : Type 0} where
  -- an unloaded loader has no name afterwards
  pub name-gone : (u : ℕ) (rows : List (Row P)) → name_of u (without_loader u rows) ≡ None
  name-gone u [] = refl
  name-gone u (Loader r ∷ rows) = by_test (eqb r.number u) refl (name-gone u rows)
    where
      by_test : (t : Bool) → eqb r.number u ≡ t → name_of u (without_loader u rows) ≡ None
          → name_of u (cond (not t) (Loader r ∷ without_loader u rows) (without_loader u rows))
          ≡ None
      by_test true is rest = rest
      by_test false is rest = rw is rest
  name-gone u (Class r p ∷ rows) = by_test (eqb r.loader u) (name-gone u rows)
    where
      by_test : (t : Bool) → name_of u (without_loader u rows) ≡ None
          → name_of u (cond (not t) (Class r p ∷ without_loader u rows) (without_loader u rows))
          ≡ None
      by_test true rest = rest
      by_test false rest = rest

  -- another loader keeps its own
  pub name-without : (v u : ℕ) (rows : List (Row P)) → eqb u v ≡ false
      → name_of v (without_loader u rows) ≡ name_of v rows
  name-without v u [] other = refl
  name-without v u (Loader r ∷ rows) other =
      by_test (eqb r.number u) refl (name-without v u rows other)
    where
      not_both : {X : Type 0} (t : Bool) → t ≡ true → t ≡ false → X
      not_both t p q = absurd (cc)

      by_test : (t : Bool) → eqb r.number u ≡ t
          → name_of v (without_loader u rows) ≡ name_of v rows
          → name_of v (cond (not t) (Loader r ∷ without_loader u rows) (without_loader u rows))
          ≡ cond (eqb r.number v) (Some r.name) (name_of v rows)
      by_test true is rest =
          let here : eqb r.number v ≡ false =
          ap (λ (n : ℕ). eqb n v) (eqb-true r.number u is) ∙ other in
          rw here rest
      by_test false is rest = ap (cond (eqb r.number v) (Some r.name)) rest
  name-without v u (Class r p ∷ rows) other = by_test (eqb r.loader u) (name-without v u rows other)
    where
      by_test : (t : Bool) → name_of v (without_loader u rows) ≡ name_of v rows
          → name_of v (cond (not t) (Class r p ∷ without_loader u rows) (without_loader u rows))
          ≡ name_of v rows
      by_test true rest = rest
      by_test false rest = rest

  -- removing a loader of another number doesn't change whether the others are live
  others-live : (u : ℕ) (us : List ℕ) (rows : List (Row P))
      → list_all (λ v. not (eqb u v)) us ≡ true
      → are_live us (without_loader u rows) ≡ are_live us rows
  others-live u [] rows h = refl
  others-live u (v ∷ us) rows h =
      let parts = and_parts (not (eqb u v)) (list_all (λ w. not (eqb u w)) us) h in
      let one : is_live v (without_loader u rows) ≡ is_live v rows =
      ap is_some (name-without v u rows (turned (eqb u v) parts.0)) in
      (λ i. one i && others-live u us rows parts.1 i)
    where
      turned : (t : Bool) → not t ≡ true → t ≡ false
      turned true e = absurd (cc)
      turned false e = refl

  -- the first is live, and the others are live without it, none of them twice
  pub live-in-turn : (u : ℕ) (us : List ℕ) (rows : List (Row P))
      → (differ (u ∷ us) && are_live (u ∷ us) rows) ≡ true
      → (is_live u rows ≡ true) × ((differ us && are_live us (without_loader u rows)) ≡ true)
  live-in-turn u us rows h =
      let other = list_all (λ v. not (eqb u v)) us in
      let parts = and_parts (other && differ us) (is_live u rows && are_live us rows) h in
      let differing = and_parts other (differ us) parts.0 in
      let live = and_parts (is_live u rows) (are_live us rows) parts.1 in (
        live.0,
        rw differing.1 (others-live u us rows differing.0 ∙ live.1),
      )

-- with something else kept of each class the same loaders live
pub all-live-with : {P Q : Type 0} (us : List ℕ) (rows : List (Row P)) (with : List (Row Q))
    → ((u : ℕ) → name_of u with ≡ name_of u rows) → are_live us with ≡ are_live us rows
all-live-with [] rows with same = refl
all-live-with (u ∷ us) rows with same =
    (λ i. is_some (same u i) && all-live-with us rows with same i)
