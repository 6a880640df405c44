-- Attributes and members, one after another.
-- For `LaidAttributes::next`, `LaidMembers::next`.
use Rattle.std.proofs.Common.{◌≡◌, ◌≤◌, ◌<◌, ◌-◌, ℕ, zero, suc, List, [], ◌∷◌, length, drop}
use Rattle.std.proofs.Common.{get_or, min, ◌/◌}
use Rattle.std.proofs.Common.{refl, ap, arith}
use Rattle.cm_class.specs.declared.class_file.Attribute.{Attribute}
use Rattle.cm_record_layout.specs.Packing.{first_of, upper_of}
use Rattle.cm_record_rules.specs.Laid.{run_bytes, attributes_in, member_in, members_in}

pub positive : (n : ℕ) → (n ≡ 0 → ⊥) → 0 < n
positive zero h = absurd (h refl)
positive (suc n) h = omega arith

module _ (bytes : List ℕ) where
  pub no_attributes : (n : ℕ) (words : List ℕ) → n ≡ 0 → attributes_in bytes n words ≡ []
  unfolding attributes_in
  no_attributes zero words e = refl
  no_attributes (suc n) words e = absurd (omega arith)

  pub attributes_short : (n : ℕ) (words : List ℕ) → length words < 2
      → attributes_in bytes n words ≡ []
  unfolding attributes_in
  attributes_short zero words h = refl
  attributes_short (suc n) [] h = refl
  attributes_short (suc n) (a ∷ []) h = refl
  attributes_short (suc n) (a ∷ b ∷ words) h = absurd (omega arith)

  pub next_attribute : (n : ℕ) (words : List ℕ) → 0 < n → 2 ≤ length words
      → attributes_in bytes n words
      ≡ record {
        name = first_of (get_or words 0 0);
        bytes = run_bytes bytes (get_or words 1 0) (upper_of (get_or words 0 0));
      } ∷ attributes_in bytes (n - 1) (drop 2 words)
  unfolding attributes_in
  next_attribute zero words some h = absurd (omega arith)
  next_attribute (suc n) [] some h = absurd (omega arith)
  next_attribute (suc n) (a ∷ []) some h = absurd (omega arith)
  next_attribute (suc n) (a ∷ b ∷ words) some h =
      let fewer : n ≡ suc n - 1 = omega arith in
      let first : Attribute =
      record { name = first_of a; bytes = run_bytes bytes b (upper_of a) } in
      ap (λ k. first ∷ attributes_in bytes k words) fewer

  pub attributes_count : (n : ℕ) (words : List ℕ)
      → length (attributes_in bytes n words) ≡ min n (length words / 2)
  unfolding attributes_in
  attributes_count zero words = omega arith
  attributes_count (suc n) [] = omega arith
  attributes_count (suc n) (a ∷ []) = omega arith
  attributes_count (suc n) (a ∷ b ∷ words) = omega (arith, attributes_count n words)

module _ (all bytes : List ℕ) where
  pub no_members : (n : ℕ) (words : List ℕ) → n ≡ 0 → members_in all bytes n words ≡ []
  unfolding members_in
  no_members zero words e = refl
  no_members (suc n) words e = absurd (omega arith)

  pub members_short : (n : ℕ) (words : List ℕ) → length words < 2
      → members_in all bytes n words ≡ []
  unfolding members_in
  members_short zero words h = refl
  members_short (suc n) [] h = refl
  members_short (suc n) (a ∷ []) h = refl
  members_short (suc n) (a ∷ b ∷ words) h = absurd (omega arith)

  pub next_member : (n : ℕ) (words : List ℕ) → 0 < n → 2 ≤ length words
      → members_in all bytes n words
      ≡ member_in all bytes (get_or words 0 0) (get_or words 1 0)
      ∷ members_in all bytes (n - 1) (drop 2 words)
  unfolding members_in
  next_member zero words some h = absurd (omega arith)
  next_member (suc n) [] some h = absurd (omega arith)
  next_member (suc n) (a ∷ []) some h = absurd (omega arith)
  next_member (suc n) (a ∷ b ∷ words) some h =
      let fewer : n ≡ suc n - 1 = omega arith in
      ap (λ k. member_in all bytes a b ∷ members_in all bytes k words) fewer

  pub members_count : (n : ℕ) (words : List ℕ)
      → length (members_in all bytes n words) ≡ min n (length words / 2)
  unfolding members_in
  members_count zero words = omega arith
  members_count (suc n) [] = omega arith
  members_count (suc n) (a ∷ []) = omega arith
  members_count (suc n) (a ∷ b ∷ words) = omega (arith, members_count n words)
