-- The attributes and members of a class, from their words.
-- For `LaidClass::fields`, `LaidClass::methods`, `LaidClass::attributes`.
use Rattle.std.proofs.Common.{◌≡◌, ◌+◌, ◌*◌, ℕ, List, [], ◌∷◌, ◌++◌, length, drop, refl, sym, ◌∙◌}
use Rattle.std.proofs.Common.{ap, append_assoc, drop-drop}
use Rattle.std.specs.List.{AllByRecursion}
use Rattle.std.proofs.lemmas.List.{drop_at}
use Rattle.cm_class.specs.declared.class_file.Attribute.{Attribute}
use Rattle.cm_class.specs.declared.class_file.Member.{Member}
use Rattle.cm_class.specs.Spelling.{AttributeFits, MemberFits}
use Rattle.cm_record_layout.specs.Packing.{packed, word_bytes}
use Rattle.cm_record_layout.specs.Layout.{attributes, attribute_run, attribute_runs, members}
use Rattle.cm_record_layout.specs.Layout.{member_attributes}
use Rattle.cm_record_layout.proofs.{first-attribute, upper-attribute, first-four_numbers}
use Rattle.cm_record_layout.proofs.{second-four_numbers, third-four_numbers, fourth-four_numbers}
use Rattle.cm_record_layout.proofs.{attributes_append, attribute_runs_append, attributes_len}
use Rattle.cm_record_rules.specs.Laid.{attributes_in, members_in}
use Rattle.cm_record_rules.proofs.RunBytes.{run_there}

-- the list after a front of some length
pub behind_front : (words front rest : List ℕ) (at : ℕ) → drop at words ≡ front ++ rest
    → drop (at + length front) words ≡ rest
behind_front words front rest at there =
    sym (drop-drop (length front) at words)
    ∙ (ap (drop (length front)) there ∙ drop_at front rest (length front) refl)

module _ (words : List ℕ) where
  -- attributes whose runs begin at `at`
  pub attributes_read : (at : ℕ) (those : List Attribute) (tail rest : List ℕ)
      → AllByRecursion AttributeFits those
      → drop at words ≡ attribute_runs those ++ rest
      → attributes_in (word_bytes words) (length those) (attributes at those ++ tail) ≡ those
  unfolding attributes_in
  attributes_read at [] tail rest fit there = refl
  attributes_read at (a ∷ those) tail rest fit there =
      let fits = fit.0 in
      let name = first-attribute a.name (length a.bytes) fits.name fits.size in
      let size = upper-attribute a.name (length a.bytes) fits.name fits.size in
      let split : drop at words ≡ packed a.bytes ++ (attribute_runs those ++ rest) =
      there ∙ append_assoc (packed a.bytes) (attribute_runs those) rest in
      let bytes = run_there words a.bytes (attribute_runs those ++ rest) at fits.bytes split in
      let next = behind_front words (packed a.bytes) (attribute_runs those ++ rest) at split in
      let others = attributes_read (at + length (attribute_run a)) those tail rest fit.1 next in
      rw (name, size, bytes, others) refl

  -- members whose attributes begin at `at`, and the runs of these at `runs`
  pub members_read : (at runs : ℕ) (those : List Member) (tail rest behind : List ℕ)
      → AllByRecursion MemberFits those
      → drop at words ≡ attributes runs (member_attributes those) ++ rest
      → drop runs words ≡ attribute_runs (member_attributes those) ++ behind
      → members_in words (word_bytes words) (length those) (members at those ++ tail) ≡ those
  unfolding members_in
  members_read at runs [] tail rest behind fit there ran = refl
  members_read at runs (m ∷ those) tail rest behind fit there ran =
      let fits = fit.0 in
      let count = length m.attributes in
      let own = m.attributes in
      let others = member_attributes those in
      let flags = first-four_numbers m.flags m.name m.descriptor count fits.flags fits.name
      fits.descriptor fits.attributes.0 in
      let name = second-four_numbers m.flags m.name m.descriptor count fits.flags fits.name
      fits.descriptor fits.attributes.0 in
      let descriptor = third-four_numbers m.flags m.name m.descriptor count fits.flags fits.name
      fits.descriptor fits.attributes.0 in
      let number = fourth-four_numbers m.flags m.name m.descriptor count fits.flags fits.name
      fits.descriptor fits.attributes.0 in
      let later = runs + length (attribute_runs own) in
      let runs_split : drop runs words
      ≡ attribute_runs own ++ (attribute_runs others ++ behind) =
      ran ∙ (ap (λ w. w ++ behind) (attribute_runs_append own others)
      ∙ append_assoc (attribute_runs own) (attribute_runs others) behind) in
      let split : drop at words ≡ attributes runs own ++ (attributes later others ++ rest) =
      there ∙ (ap (λ w. w ++ rest) (attributes_append runs own others)
      ∙ append_assoc (attributes runs own) (attributes later others) rest) in
      let its : attributes_in (word_bytes words) count (drop at words) ≡ own =
      ap (attributes_in (word_bytes words) count) split
      ∙ attributes_read runs own (attributes later others ++ rest)
      (attribute_runs others ++ behind) fits.attributes.1 runs_split in
      let size : at + length (attributes runs own) ≡ at + 2 * count =
      ap (λ n. at + n) (attributes_len runs own) in
      let next : drop (at + 2 * count) words ≡ attributes later others ++ rest =
      ap (λ n. drop n words) (sym size)
      ∙ behind_front words (attributes runs own) (attributes later others ++ rest) at split in
      let ran_next = behind_front words (attribute_runs own) (attribute_runs others ++ behind) runs
      runs_split in
      let more = members_read (at + 2 * count) later those tail rest behind fit.1 next ran_next in
      rw (flags, name, descriptor, number, its, more) refl
