-- The loop over the parts of a row.
-- For `skip_parts`.
use Rattle.std.proofs.Common.{◌≡◌, ℕ, ◌+◌, ◌<◌, ◌≤◌, List, length, get_or, drop, Option, Some, None}
use Rattle.std.proofs.Common.{refl, sym, ap, ◌∙◌, add-one, drop-cons}
use Rattle.std.proofs.lemmas.List.{drop_all}
use Rattle.cm_class.specs.declared.class_file.ClassFile.{ClassFile}
use Rattle.cm_attributes.specs.declared.part.Part.{Part}
use Rattle.cm_attributes.specs.Contents.{◌>>=◌, past_part, past_parts}

module _ (c : ClassFile) (some_part : Part) where
  -- what the parts after one part do with what it leaves
  abbrev behind_part : List Part → ℕ → Option (List ℕ) → Option (List ℕ)
  behind_part parts i read = read >>= λ rest. past_parts c (drop (i + 1) parts) rest

  at_part : (parts : List Part) (i : ℕ) (bytes : List ℕ) → i < length parts
      → past_parts c (drop i parts) bytes
      ≡ behind_part parts i (past_part c (get_or parts i some_part) bytes)
  unfolding past_parts
  at_part parts i bytes lt = rw (drop-cons parts i some_part lt, add-one) refl

  pub part_is_passed : (parts : List Part) (i : ℕ) (bytes rest : List ℕ) (total : Option (List ℕ))
      → i < length parts → Some rest ≡ past_part c (get_or parts i some_part) bytes
      → past_parts c (drop i parts) bytes ≡ total
      → past_parts c (drop (i + 1) parts) rest ≡ total
  part_is_passed parts i bytes rest total lt h so_far =
      ap (behind_part parts i) h ∙ sym (at_part parts i bytes lt) ∙ so_far

  pub part_is_refused : (parts : List Part) (i : ℕ) (bytes : List ℕ) (total : Option (List ℕ))
      → i < length parts → None ≡ past_part c (get_or parts i some_part) bytes
      → past_parts c (drop i parts) bytes ≡ total
      → None ≡ total
  part_is_refused parts i bytes total lt h so_far =
      ap (behind_part parts i) h ∙ sym (at_part parts i bytes lt) ∙ so_far

  pub all_are_passed : (parts : List Part) (i : ℕ) (bytes : List ℕ) (total : Option (List ℕ))
      → length parts ≤ i → past_parts c (drop i parts) bytes ≡ total → Some bytes ≡ total
  unfolding past_parts
  all_are_passed parts i bytes total le so_far =
      ap (λ (ps : List Part). past_parts c ps bytes) (sym (drop_all i parts le)) ∙ so_far
