-- Items that are read one after another in place.
-- For `iter`, `len`, `next`.
use Rattle.std.proofs.Common.{◌≡◌, ◌+◌, ◌-◌, ◌<◌, ℕ, zero, suc, List, [], ◌∷◌, length}
use Rattle.std.proofs.Common.{None, Ok, Err, refl, sym, ap, subst, ◌∙◌, arith}
use Rattle.cm_class.specs.declared.stop.Stop.{Stop}
use Rattle.cm_class.specs.Reading.{◌>>=◌, many_at, items_of, Succeeds}
use Rattle.cm_class.proofs.Readers.{Read}

module _ {A : Type 0} (item : List ℕ → Read A) where
  -- an item before others
  abbrev with_first : A → Read (List A) → Read (List A)
  with_first a read = read >>= λ others. Ok (a ∷ others.0, others.1)

  items_with : (a : A) (read : Read (List A)) → Succeeds (with_first a read)
      → items_of (with_first a read) ≡ a ∷ items_of read
  items_with a (Ok x) s = refl
  items_with a (Err e) s = absurd s

  still_with : (a : A) (read : Read (List A)) → Succeeds (with_first a read) → Succeeds read
  still_with a (Ok x) s = tt
  still_with a (Err e) s = absurd s

  split : (n : ℕ) (bytes : List ℕ) (a : A) (after : List ℕ) → item bytes ≡ Ok (a, after)
      → many_at item (suc n) bytes ≡ with_first a (many_at item n after)
  unfolding many_at
  split n bytes a after h = rw h refl

  pub none : (n : ℕ) (bytes : List ℕ) → n ≡ 0 → items_of (many_at item n bytes) ≡ []
  unfolding many_at
  none zero bytes e = refl
  none (suc n) bytes e = absurd (omega arith)

  -- the first item, and those after it
  pub first : (n m : ℕ) (bytes : List ℕ) (a : A) (after : List ℕ) → n ≡ m + 1
      → item bytes ≡ Ok (a, after) → Succeeds (many_at item n bytes)
      → items_of (many_at item n bytes) ≡ a ∷ items_of (many_at item m after)
  first zero m bytes a after e h s = absurd (omega arith)
  first (suc k) m bytes a after e h s =
      let same : m ≡ k = omega arith in
      let parts = split k bytes a after h in
      rw (same, parts) (items_with a (many_at item k after)
      (subst (λ (r : Read (List A)). Succeeds r) parts s))

  -- the items after it are read too
  pub still : (n m : ℕ) (bytes : List ℕ) (a : A) (after : List ℕ) → n ≡ m + 1
      → item bytes ≡ Ok (a, after) → Succeeds (many_at item n bytes)
      → Succeeds (many_at item m after)
  still zero m bytes a after e h s = absurd (omega arith)
  still (suc k) m bytes a after e h s =
      let same : m ≡ k = omega arith in
      rw same (still_with a (many_at item k after)
      (subst (λ (r : Read (List A)). Succeeds r) (split k bytes a after h) s))

  pub never_stops : (n : ℕ) (bytes : List ℕ) (stop : Stop) → 0 < n → item bytes ≡ Err stop
      → Succeeds (many_at item n bytes) → ⊥
  unfolding many_at
  never_stops zero bytes stop some h s = absurd (omega arith)
  never_stops (suc n) bytes stop some h s = rw h at s

  pub counts : (n : ℕ) (bytes : List ℕ) → Succeeds (many_at item n bytes)
      → length (items_of (many_at item n bytes)) ≡ n
  counts zero bytes s = ap length (none zero bytes refl)
  counts (suc n) bytes s = by_first (item bytes) refl (λ after t. counts n after t)
    where
      by_first : (r : Read A) → item bytes ≡ r
          → ((after : List ℕ) → Succeeds (many_at item n after)
          → length (items_of (many_at item n after)) ≡ n)
          → length (items_of (many_at item (suc n) bytes)) ≡ suc n
      by_first (Err stop) h rest = absurd (never_stops (suc n) bytes stop (omega arith) h s)
      by_first (Ok x) h rest =
          let these = first (suc n) n bytes x.0 x.1 (omega arith) h s in
          let others = rest x.1 (still (suc n) n bytes x.0 x.1 (omega arith) h s) in
          omega (arith, ap length these, others)
