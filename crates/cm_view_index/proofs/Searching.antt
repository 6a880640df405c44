-- A search in a list that is sorted by keys.
-- For `find_at`, `first_twin`, and for crates above.
use Rattle.std.proofs.Common.{◌≡◌, ◌<◌, ◌≤◌, ℕ, Bool, true, false, List, length, get_or, sym}
use Rattle.std.proofs.Common.{◌∙◌, ap, arith, inl, inr}
use Rattle.std.specs.Ordering.{is_lt, ordering_reverse}
use Rattle.std.specs.declared.cmp.Ordering.{Ordering}
use Rattle.std.specs.declared.cmp.Ordering.TheVariants.{Less, Equal, Greater}
use Rattle.std.specs.Cmp.{IsTotalOrder, IsStrictWeakOrder}
use Rattle.std.specs.List.Sorted.{IsPartitionedBy, IsPartitionPoint, IsSortedBy}
use Rattle.std.proofs.lemmas.Bool.{cases_lt, cases_Bool}
use Rattle.std.proofs.lemmas.Cmp.{tied_itself}
use Rattle.std.proofs.lemmas.List.MinMax.{ranks_by}
use Rattle.std.proofs.lemmas.List.Sorted.{sorted_far}

-- of which neither comes before the other
tied : (o p : Ordering) → o ≡ ordering_reverse p → is_lt o ≡ false → is_lt p ≡ false → o ≡ Equal
tied o Less e a b = absurd (cc)
tied o Equal e a b = e
tied Less Greater e a b = absurd (cc)
tied Equal Greater e a b = absurd (cc)
tied Greater Greater e a b = absurd (cc)

module _ {X K : Type 0} {R : K → K → Ordering} (o : IsTotalOrder R) (key : X → K) where
  abbrev pub comes_before : X → X → Bool
  comes_before a b = is_lt (R (key a) (key b))

  pub ranked : IsStrictWeakOrder comes_before
  ranked = ranks_by o key

  -- keys that don't come one before the other are equal
  pub equal_keys : (a b : K) → is_lt (R a b) ≡ false → is_lt (R b a) ≡ false → R a b ≡ Equal
  equal_keys a b before behind = tied (R a b) (R b a) (o.antisymm a b) before behind

  module _ (xs : List X) (sorted : IsSortedBy comes_before xs) where
    pub rises : (i j : ℕ) (d : X) → i ≤ j → j < length xs
        → comes_before (get_or xs j d) (get_or xs i d) ≡ false
    rises = sorted_far comes_before ranked xs sorted

    module _ (wanted : K) where
      abbrev pub is_early : X → Bool
      is_early x = is_lt (R (key x) wanted)

      keys_ranked : IsStrictWeakOrder (λ (a : K) (b : K). is_lt (R a b))
      keys_ranked = ranks_by o (λ (k : K). k)

      pub parted : IsPartitionedBy is_early xs
      parted i j d le lt early =
          elim (cases_Bool (is_early (get_or xs i d))) [
            | inl is ↦ is
            | inr not ↦
                let late : is_early (get_or xs j d) ≡ false =
                keys_ranked.chain (key (get_or xs j d)) (key (get_or xs i d)) wanted
                (rises i j d le lt) not in
                absurd (cc)
          ]

      -- what has the wanted key is at the place of the search or after it, so there is one right
      -- there
      pub found_there : (at : ℕ)
          → IsPartitionPoint (λ y. is_early y ≡ true) (λ y. is_early y ≡ false) xs at
          → (k : ℕ) (d : X) → k < length xs → key (get_or xs k d) ≡ wanted
          → (at < length xs) × (R (key (get_or xs at d)) wanted ≡ Equal)
      found_there at point k d lt is =
          let late : is_early (get_or xs k d) ≡ false =
          ap (λ (q : K). is_lt (R q wanted)) is ∙ ap is_lt (tied_itself o wanted) in
          let behind : at ≤ k = elim (cases_lt k at) [
            | inl less ↦ let early = point.0 k d (omega arith) less in absurd (cc)
            | inr more ↦ more
          ] in
          let there : at < length xs = omega arith in
          let not_late : is_early (get_or xs at d) ≡ false = point.1 at d (omega arith) there in
          let not_early : is_lt (R wanted (key (get_or xs at d))) ≡ false =
          ap (λ (q : K). is_lt (R q (key (get_or xs at d)))) (sym is) ∙ rises at k d behind lt in
          (there, equal_keys (key (get_or xs at d)) wanted not_late not_early)
