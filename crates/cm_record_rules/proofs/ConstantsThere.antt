-- The constants of a class, found in the words of its record.
-- For `LaidClass::constant`.
use Rattle.std.proofs.Common.{◌≡◌, ◌≤◌, ◌<◌, ◌+◌, ◌*◌, ◌%◌, ◌^◌, ℕ, zero, suc, Bool, true, false}
use Rattle.std.proofs.Common.{List}
use Rattle.std.proofs.Common.{[], ◌∷◌, ◌++◌, length, take, drop, get_or, slice_get, Option, Some}
use Rattle.std.proofs.Common.{None, refl, sym, ◌∙◌, ap, subst, arith, append_assoc, length-append}
use Rattle.std.proofs.Common.{drop-drop, get_or-drop}
use Rattle.std.specs.Prelude.{option_map, option_and_then}
use Rattle.std.proofs.lemmas.List.{drop_at}
use Rattle.cm_class.specs.declared.constant.Constant.TheVariants as constant
use Rattle.cm_class.specs.declared.constant.Slot.{Slot}
use Rattle.cm_class.specs.declared.constant.Slot.TheVariants.{Usable, Unusable}
use Rattle.cm_class.specs.declared.class_file.ClassFile.{ClassFile}
use Rattle.cm_class.specs.Names.{constant_named, constant_in, kind_of}
use Rattle.cm_class.specs.Spelling.{ClassConstant, is_wide, ConstantFits, SlotsFit, HasSpelling}
use Rattle.cm_record_layout.specs.Packing.{packed, word_bytes, second_of, third_of}
use Rattle.cm_record_layout.specs.Packing.{fourth_of, upper_of}
use Rattle.cm_record_layout.specs.Layout.{lay, constant_words, constant_run, slot_run, directory}
use Rattle.cm_record_layout.specs.Layout.{utf8_runs, members, runs_at, attributes_at, limit}
use Rattle.cm_record_layout.specs.Tails.{methods_at, attributes_tail, runs_tail}
use Rattle.cm_record_layout.proofs.{main_there, runs_there, lay_len}
use Rattle.cm_record_rules.specs.Laid.{run_bytes, constant_of, constant_there, tags_of}
use Rattle.cm_record_rules.proofs.RunBytes.{run_there}
use Rattle.cm_record_rules.proofs.Tags.{behind, words_in_front, kind_by_tag, tag_at_index}
use Rattle.cm_record_rules.proofs.Tags.{tag_named}

-- ---- a constant from its words

one_index : (tag n : ℕ) → tag < 2 ^ 16 → n < 2 ^ 16 → third_of (tag + 2 ^ 32 * n) ≡ n
one_index tag n ht hn = omega arith

two_indexes : (tag n k : ℕ) → tag < 2 ^ 16 → n < 2 ^ 16 → k < 2 ^ 16
    → (third_of (tag + 2 ^ 32 * n + 2 ^ 48 * k) ≡ n)
    × (fourth_of (tag + 2 ^ 32 * n + 2 ^ 48 * k) ≡ k)
two_indexes tag n k ht hn hk = (omega arith, omega arith)

-- the words of a constant, whose run begins at `at`, are those of that constant
of_words : (bytes : List ℕ) (at : ℕ) (d : ClassConstant) (rest : List ℕ) → ConstantFits d
    → at < 2 ^ 32
    → ((text : List ℕ) → d ≡ constant.Utf8 text → run_bytes bytes at (length text) ≡ text)
    → constant_of bytes (get_or (constant_words at d ++ rest) 0 0)
    (get_or (constant_words at d ++ rest) 1 0) (kind_of d) ≡ d
of_words bytes at (constant.Utf8 text) rest fits small ran =
    let w = 1 + 2 ^ 16 * length text + 2 ^ 32 * at in
    let size = fits.0 in
    let len : second_of w ≡ length text = omega arith in
    let place : upper_of w ≡ at = omega arith in
    (λ i. constant.Utf8 (run_bytes bytes (place i) (len i))) ∙ ap constant.Utf8 (ran text refl)
of_words bytes at (constant.Integer bits) rest fits small ran =
    let same : upper_of (3 + 2 ^ 32 * bits) ≡ bits = omega arith in ap constant.Integer same
of_words bytes at (constant.Float bits) rest fits small ran =
    let same : upper_of (4 + 2 ^ 32 * bits) ≡ bits = omega arith in ap constant.Float same
of_words bytes at (constant.Long bits) rest fits small ran = refl
of_words bytes at (constant.Double bits) rest fits small ran = refl
of_words bytes at (constant.Class name) rest fits small ran =
    ap constant.Class (one_index 7 name (omega arith) fits)
of_words bytes at (constant.String utf8) rest fits small ran =
    ap constant.String (one_index 8 utf8 (omega arith) fits)
of_words bytes at (constant.Fieldref a b) rest fits small ran = let p =
    two_indexes 9 a b (omega arith) fits.0 fits.1 in λ i. constant.Fieldref (p.0 i) (p.1 i)
of_words bytes at (constant.Methodref a b) rest fits small ran = let p =
    two_indexes 10 a b (omega arith) fits.0 fits.1 in λ i. constant.Methodref (p.0 i) (p.1 i)
of_words bytes at (constant.InterfaceMethodref a b) rest fits small ran = let p =
    two_indexes 11 a b (omega arith) fits.0 fits.1 in
    λ i. constant.InterfaceMethodref (p.0 i) (p.1 i)
of_words bytes at (constant.NameAndType a b) rest fits small ran = let p =
    two_indexes 12 a b (omega arith) fits.0 fits.1 in λ i. constant.NameAndType (p.0 i) (p.1 i)
of_words bytes at (constant.MethodHandle n k) rest fits small ran =
    let w = 15 + 2 ^ 32 * n + 2 ^ 48 * k in
    let small_n = fits.0 in
    let small_k = fits.1 in
    let kind : third_of w % 2 ^ 8 ≡ n = omega arith in
    let two : fourth_of w ≡ k = omega arith in
    λ i. constant.MethodHandle (kind i) (two i)
of_words bytes at (constant.MethodType descriptor) rest fits small ran =
    ap constant.MethodType (one_index 16 descriptor (omega arith) fits)
of_words bytes at (constant.InvokeDynamic a b) rest fits small ran = let p =
    two_indexes 18 a b (omega arith) fits.0 fits.1 in λ i. constant.InvokeDynamic (p.0 i) (p.1 i)

-- ---- where the words of a slot are

-- the words of a usable slot begin at its place, and its run begins after those of the slots before
-- it
slot_words : (second : Bool) (bits at : ℕ) (slots : List Slot) (tail : List ℕ) (i : ℕ)
    (d : ClassConstant) → SlotsFit second slots → slice_get slots i ≡ Some (Usable d)
    → (rest : List ℕ)
    × (drop i (behind second bits (directory at slots ++ tail))
    ≡ constant_words (at + length (utf8_runs (take i slots))) d ++ rest)
unfolding behind
slot_words second bits at [] tail i d fits e = absurd (cc)
slot_words true bits at (Unusable ∷ slots) tail zero d fits e = absurd (cc)
slot_words true bits at (Unusable ∷ slots) tail (suc i) d fits e =
    slot_words false 0 at slots tail i d fits e
slot_words true bits at (Usable k ∷ slots) tail i d fits e = absurd fits
slot_words false bits at (Unusable ∷ slots) tail i d fits e = absurd fits
slot_words false bits at (Usable k ∷ slots) tail zero d fits e =
    let same : k ≡ d = cc in
    let here : at + 0 ≡ at = omega arith in (
      directory (at + length (constant_run k)) slots ++ tail,
      append_assoc (constant_words at k) (directory (at + length (constant_run k)) slots) tail
          ∙ rw (here, same) refl,
    )
slot_words false bits at (Usable k ∷ slots) tail (suc i) d fits e =
    let next = at + length (constant_run k) in
    let more =
    slot_words (is_wide k) (get_or (constant_words at k) 1 0) next slots tail i d fits.1 e in
    let place : next + length (utf8_runs (take i slots))
    ≡ at + length (constant_run k ++ utf8_runs (take i slots)) =
    omega (arith, length-append (constant_run k) (utf8_runs (take i slots))) in (
      more.0,
      ap (drop (suc i)) (append_assoc (constant_words at k) (directory next slots) tail
          ∙ words_in_front at k (directory next slots ++ tail))
          ∙ (more.1 ∙ ap (λ n. constant_words n d ++ more.0) place),
    )

fits_at : (second : Bool) (slots : List Slot) (i : ℕ) (d : ClassConstant)
    → SlotsFit second slots → slice_get slots i ≡ Some (Usable d) → ConstantFits d
fits_at second [] i d fits e = absurd (cc)
fits_at true (Unusable ∷ slots) zero d fits e = absurd (cc)
fits_at true (Unusable ∷ slots) (suc i) d fits e = fits_at false slots i d fits e
fits_at true (Usable k ∷ slots) i d fits e = absurd fits
fits_at false (Unusable ∷ slots) i d fits e = absurd fits
fits_at false (Usable k ∷ slots) zero d fits e = let same : k ≡ d =
    cc in subst ConstantFits same fits.0
fits_at false (Usable k ∷ slots) (suc i) d fits e = fits_at (is_wide k) slots i d fits.1 e

-- what a Utf8's run is, among those of all slots
run_split : (slots : List Slot) (i : ℕ) (text : List ℕ)
    → slice_get slots i ≡ Some (Usable (constant.Utf8 text)) → (rest : List ℕ)
    × (utf8_runs slots ≡ utf8_runs (take i slots) ++ (packed text ++ rest))
run_split [] i text e = absurd (cc)
run_split (s ∷ slots) zero text e = let same : s ≡ Usable (constant.Utf8 text) =
    cc in (utf8_runs slots, ap (λ t. slot_run t ++ utf8_runs slots) same)
run_split (s ∷ slots) (suc i) text e =
    let more = run_split slots i text e in (
      more.0,
      ap (λ w. slot_run s ++ w) more.1
          ∙ sym (append_assoc (slot_run s) (utf8_runs (take i slots)) (packed text ++ more.0)),
    )

runs_up_to : (slots : List Slot) (i : ℕ)
    → length (utf8_runs (take i slots)) ≤ length (utf8_runs slots)
runs_up_to [] zero = omega arith
runs_up_to [] (suc i) = omega arith
runs_up_to (s ∷ slots) zero = omega arith
runs_up_to (s ∷ slots) (suc i) =
    omega (
      arith,
      runs_up_to slots i,
      length-append (slot_run s) (utf8_runs (take i slots)),
      length-append (slot_run s) (utf8_runs slots),
    )

module _ (c : ClassFile) (spelled : HasSpelling c) (short : length (lay c) ≤ limit) where
  abbrev run_at_slot : ℕ → ℕ
  run_at_slot i = runs_at c + length (utf8_runs (take i c.slots))

  -- the words of a usable slot
  slot_there : (i : ℕ) (d : ClassConstant) → slice_get c.slots i ≡ Some (Usable d)
      → (rest : List ℕ) × (drop (9 + i) (lay c) ≡ constant_words (run_at_slot i) d ++ rest)
  unfolding behind
  slot_there i d e =
      let tail =
      c.interfaces ++ (members (attributes_at c) c.fields
      ++ (members (methods_at c) c.methods ++ attributes_tail c)) in
      let found = slot_words false 0 (runs_at c) c.slots tail i d spelled.slots e in (
        found.0,
        sym (drop-drop i 9 (lay c)) ∙ (ap (drop i) (main_there c spelled) ∙ found.1),
      )

  -- the run of the Utf8 at a slot
  text_there : (i : ℕ) (text : List ℕ) → slice_get c.slots i ≡ Some (Usable (constant.Utf8 text))
      → run_bytes (word_bytes (lay c)) (run_at_slot i) (length text) ≡ text
  text_there i text e =
      let before = utf8_runs (take i c.slots) in
      let found = run_split c.slots i text e in
      let tail = drop (length (utf8_runs c.slots)) (runs_tail c) in
      let all : runs_tail c ≡ utf8_runs c.slots ++ tail = ap
      (λ w. utf8_runs c.slots ++ w)
      (sym (drop_at (utf8_runs c.slots) _ (length (utf8_runs c.slots)) refl)) in
      let parts : runs_tail c ≡ before ++ (packed text ++ (found.0 ++ tail)) =
      all ∙ (ap (λ w. w ++ tail) found.1
      ∙ (append_assoc before (packed text ++ found.0) tail
      ∙ ap (λ w. before ++ w) (append_assoc (packed text) found.0 tail))) in
      let there : drop (run_at_slot i) (lay c) ≡ packed text ++ (found.0 ++ tail) =
      sym (drop-drop (length before) (runs_at c) (lay c))
      ∙ (ap (drop (length before)) (runs_there c spelled ∙ parts)
      ∙ drop_at before (packed text ++ (found.0 ++ tail)) (length before) refl) in
      let fits = fits_at false c.slots i (constant.Utf8 text) spelled.slots e in
      run_there (lay c) text (found.0 ++ tail) (run_at_slot i) fits.1 there

  usable_there : (i : ℕ) (d : ClassConstant) → slice_get c.slots i ≡ Some (Usable d)
      → constant_of (word_bytes (lay c)) (get_or (lay c) (9 + i) 0) (get_or (lay c) (10 + i) 0)
      (kind_of d) ≡ d
  usable_there i d e =
      let found = slot_there i d e in
      let words = constant_words (run_at_slot i) d ++ found.0 in
      let zero_on : 9 + i + 0 ≡ 9 + i = omega arith in
      let one_on : 9 + i + 1 ≡ 10 + i = omega arith in
      let word : get_or (lay c) (9 + i) 0 ≡ get_or words 0 0 =
      ap (λ n. get_or (lay c) n 0) (sym zero_on)
      ∙ (sym (get_or-drop (9 + i) (lay c) 0 0) ∙ ap (λ w. get_or w 0 0) found.1) in
      let next : get_or (lay c) (10 + i) 0 ≡ get_or words 1 0 =
      ap (λ n. get_or (lay c) n 0) (sym one_on)
      ∙ (sym (get_or-drop (9 + i) (lay c) 1 0) ∙ ap (λ w. get_or w 1 0) found.1) in
      let small : run_at_slot i < 2 ^ 32 =
      omega (arith, runs_up_to c.slots i, lay_len c spelled, short) in
      (λ j. constant_of (word_bytes (lay c)) (word j) (next j) (kind_of d))
      ∙ of_words (word_bytes (lay c)) (run_at_slot i) d found.0
      (fits_at false c.slots i d spelled.slots e) small
      (λ text same. text_there i text (e ∙ ap (λ k. Some (Usable k)) same))

  pub constant_is : (index : ℕ)
      → constant_there (lay c) (word_bytes (lay c)) (get_or (tags_of c) index 0) index
      ≡ constant_named c index
  constant_is zero =
      ap (λ t. constant_there (lay c) (word_bytes (lay c)) t 0) (tag_at_index c 0)
  constant_is (suc i) =
      ap (λ t. constant_there (lay c) (word_bytes (lay c)) t (suc i)) (tag_at_index c (suc i))
      ∙ by_slot (slice_get c.slots i) refl
    where
      by_slot : (o : Option Slot) → slice_get c.slots i ≡ o
          → constant_there (lay c) (word_bytes (lay c)) (tag_named (option_and_then constant_in o))
          (suc i) ≡ option_and_then constant_in o
      by_slot None e = refl
      by_slot (Some Unusable) e = refl
      by_slot (Some (Usable d)) e =
          let one : 8 + suc i ≡ 9 + i = omega arith in
          let two : 9 + suc i ≡ 10 + i = omega arith in
          let make = constant_of (word_bytes (lay c)) in
          ap (option_map (make (get_or (lay c) (8 + suc i) 0) (get_or (lay c) (9 + suc i) 0)))
          (kind_by_tag d)
          ∙ ((λ j. Some (make (get_or (lay c) (one j) 0) (get_or (lay c) (two j) 0) (kind_of d)))
          ∙ ap Some (usable_there i d e))
