-- Where the words of a class's constants are in its record: lemmas that cm_record_rules has too.
-- For `record_shows_name`.
use Rattle.std.proofs.Common.{◌≡◌, ◌≤◌, ◌+◌, ℕ, zero, suc, Bool, true, false, List}
use Rattle.std.proofs.Common.{[], ◌∷◌, ◌++◌, length, take, drop, get_or, slice_get, Some}
use Rattle.std.proofs.Common.{refl, sym, ◌∙◌, ap, subst, arith, append_assoc, length-append}
use Rattle.std.proofs.Common.{drop-drop}
use Rattle.std.proofs.lemmas.List.{drop_at}
use Rattle.cm_class.specs.declared.constant.Constant.TheVariants as constant
use Rattle.cm_class.specs.declared.constant.Slot.{Slot}
use Rattle.cm_class.specs.declared.constant.Slot.TheVariants.{Usable, Unusable}
use Rattle.cm_class.specs.declared.class_file.ClassFile.{ClassFile}
use Rattle.cm_class.specs.Spelling.{ClassConstant, is_wide, ConstantFits, SlotsFit, HasSpelling}
use Rattle.cm_record_layout.specs.Packing.{packed}
use Rattle.cm_record_layout.specs.Layout.{lay, constant_words, constant_run, slot_run, directory}
use Rattle.cm_record_layout.specs.Layout.{utf8_runs, members, runs_at, attributes_at}
use Rattle.cm_record_layout.specs.Tails.{methods_at, attributes_tail, runs_tail}
use Rattle.cm_record_layout.proofs.{main_there, runs_there, lay_len}

unfoldable behind : Bool → ℕ → List ℕ → List ℕ
behind true bits words = bits ∷ words
behind false bits words = words

words_in_front : (at : ℕ) (d : ClassConstant) (words : List ℕ)
    → constant_words at d ++ words
    ≡ get_or (constant_words at d) 0 0
    ∷ behind (is_wide d) (get_or (constant_words at d) 1 0) words
unfolding behind
words_in_front at (constant.Utf8 bytes) words = refl
words_in_front at (constant.Integer bits) words = refl
words_in_front at (constant.Float bits) words = refl
words_in_front at (constant.Long bits) words = refl
words_in_front at (constant.Double bits) words = refl
words_in_front at (constant.Class name) words = refl
words_in_front at (constant.String utf8) words = refl
words_in_front at (constant.Fieldref a b) words = refl
words_in_front at (constant.Methodref a b) words = refl
words_in_front at (constant.InterfaceMethodref a b) words = refl
words_in_front at (constant.NameAndType a b) words = refl
words_in_front at (constant.MethodHandle a b) words = refl
words_in_front at (constant.MethodType descriptor) words = refl
words_in_front at (constant.InvokeDynamic a b) words = refl

slot_words : (second : Bool) (bits at : ℕ) (slots : List Slot) (tail : List ℕ) (i : ℕ)
    (d : ClassConstant) → SlotsFit second slots → slice_get slots i ≡ Some (Usable d)
    → (rest : List ℕ)
    × (drop i (behind second bits (directory at slots ++ tail))
    ≡ constant_words (at + length (utf8_runs (take i slots))) d ++ rest)
unfolding behind
slot_words second bits at [] tail i d fits e = absurd (cc)
slot_words true bits at (Unusable ∷ slots) tail zero d fits e = absurd (cc)
slot_words true bits at (Unusable ∷ slots) tail (suc i) d fits e =
    slot_words false 0 at slots tail i d fits e
slot_words true bits at (Usable k ∷ slots) tail i d fits e = absurd fits
slot_words false bits at (Unusable ∷ slots) tail i d fits e = absurd fits
slot_words false bits at (Usable k ∷ slots) tail zero d fits e =
    let same : k ≡ d = cc in
    let here : at + 0 ≡ at = omega arith in (
      directory (at + length (constant_run k)) slots ++ tail,
      append_assoc (constant_words at k) (directory (at + length (constant_run k)) slots) tail
          ∙ rw (here, same) refl,
    )
slot_words false bits at (Usable k ∷ slots) tail (suc i) d fits e =
    let next = at + length (constant_run k) in
    let more =
    slot_words (is_wide k) (get_or (constant_words at k) 1 0) next slots tail i d fits.1 e in
    let place : next + length (utf8_runs (take i slots))
    ≡ at + length (constant_run k ++ utf8_runs (take i slots)) =
    omega (arith, length-append (constant_run k) (utf8_runs (take i slots))) in (
      more.0,
      ap (drop (suc i)) (append_assoc (constant_words at k) (directory next slots) tail
          ∙ words_in_front at k (directory next slots ++ tail))
          ∙ (more.1 ∙ ap (λ n. constant_words n d ++ more.0) place),
    )

pub fits_at : (second : Bool) (slots : List Slot) (i : ℕ) (d : ClassConstant)
    → SlotsFit second slots → slice_get slots i ≡ Some (Usable d) → ConstantFits d
fits_at second [] i d fits e = absurd (cc)
fits_at true (Unusable ∷ slots) zero d fits e = absurd (cc)
fits_at true (Unusable ∷ slots) (suc i) d fits e = fits_at false slots i d fits e
fits_at true (Usable k ∷ slots) i d fits e = absurd fits
fits_at false (Unusable ∷ slots) i d fits e = absurd fits
fits_at false (Usable k ∷ slots) zero d fits e = let same : k ≡ d =
    cc in subst ConstantFits same fits.0
fits_at false (Usable k ∷ slots) (suc i) d fits e = fits_at (is_wide k) slots i d fits.1 e

run_split : (slots : List Slot) (i : ℕ) (text : List ℕ)
    → slice_get slots i ≡ Some (Usable (constant.Utf8 text)) → (rest : List ℕ)
    × (utf8_runs slots ≡ utf8_runs (take i slots) ++ (packed text ++ rest))
run_split [] i text e = absurd (cc)
run_split (s ∷ slots) zero text e = let same : s ≡ Usable (constant.Utf8 text) =
    cc in (utf8_runs slots, ap (λ t. slot_run t ++ utf8_runs slots) same)
run_split (s ∷ slots) (suc i) text e =
    let more = run_split slots i text e in (
      more.0,
      ap (λ w. slot_run s ++ w) more.1
          ∙ sym (append_assoc (slot_run s) (utf8_runs (take i slots)) (packed text ++ more.0)),
    )

runs_up_to : (slots : List Slot) (i : ℕ)
    → length (utf8_runs (take i slots)) ≤ length (utf8_runs slots)
runs_up_to [] zero = omega arith
runs_up_to [] (suc i) = omega arith
runs_up_to (s ∷ slots) zero = omega arith
runs_up_to (s ∷ slots) (suc i) =
    omega (
      arith,
      runs_up_to slots i,
      length-append (slot_run s) (utf8_runs (take i slots)),
      length-append (slot_run s) (utf8_runs slots),
    )

module _ (c : ClassFile) (spelled : HasSpelling c) where
  abbrev pub run_at_slot : ℕ → ℕ
  run_at_slot i = runs_at c + length (utf8_runs (take i c.slots))

  pub run_within : (i : ℕ) → run_at_slot i ≤ length (lay c)
  run_within i = omega (arith, runs_up_to c.slots i, lay_len c spelled)

  pub slot_there : (i : ℕ) (d : ClassConstant) → slice_get c.slots i ≡ Some (Usable d)
      → (rest : List ℕ) × (drop (9 + i) (lay c) ≡ constant_words (run_at_slot i) d ++ rest)
  unfolding behind
  slot_there i d e =
      let tail =
      c.interfaces ++ (members (attributes_at c) c.fields
      ++ (members (methods_at c) c.methods ++ attributes_tail c)) in
      let found = slot_words false 0 (runs_at c) c.slots tail i d spelled.slots e in (
        found.0,
        sym (drop-drop i 9 (lay c)) ∙ (ap (drop i) (main_there c spelled) ∙ found.1),
      )

  pub run_there : (i : ℕ) (text : List ℕ) → slice_get c.slots i ≡ Some (Usable (constant.Utf8 text))
      → (rest : List ℕ) × (drop (run_at_slot i) (lay c) ≡ packed text ++ rest)
  run_there i text e =
      let before = utf8_runs (take i c.slots) in
      let found = run_split c.slots i text e in
      let tail = drop (length (utf8_runs c.slots)) (runs_tail c) in
      let all : runs_tail c ≡ utf8_runs c.slots ++ tail = ap
      (λ w. utf8_runs c.slots ++ w)
      (sym (drop_at (utf8_runs c.slots) _ (length (utf8_runs c.slots)) refl)) in
      let parts : runs_tail c ≡ before ++ (packed text ++ (found.0 ++ tail)) =
      all ∙ (ap (λ w. w ++ tail) found.1
      ∙ (append_assoc before (packed text ++ found.0) tail
      ∙ ap (λ w. before ++ w) (append_assoc (packed text) found.0 tail))) in (
        found.0 ++ tail,
        sym (drop-drop (length before) (runs_at c) (lay c))
            ∙ (ap (drop (length before)) (runs_there c spelled ∙ parts)
            ∙ drop_at before (packed text ++ (found.0 ++ tail)) (length before) refl),
      )
