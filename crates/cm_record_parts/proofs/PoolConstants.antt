-- The constants of a class, found in the words of its record.
-- For `constant`, `next_constant`, `utf8_place`.
use Rattle.std.proofs.Common.{◌≡◌, ◌<◌, ◌≤◌, ◌+◌, ◌-◌, ◌*◌, ◌/◌, ◌%◌, ◌^◌, ℕ, zero, suc, Bool, true}
use Rattle.std.proofs.Common.{false, List, [], ◌∷◌, ◌++◌, length, take, drop, get_or, slice_get}
use Rattle.std.proofs.Common.{Some, None, refl, sym, ◌∙◌, ap, subst, arith, length-append}
use Rattle.std.proofs.Common.{append_assoc, get_or-drop, drop-drop, inl, inr}
use Rattle.std.specs.Prelude.{not, ◌&&◌, ◌==◌, if◌then◌else◌, nat_le, option_map, option_and_then}
use Rattle.std.proofs.lemmas.Bool.{ne_eqb, le-leb, lt-leb}
use Rattle.std.proofs.lemmas.Bool.Decides.{leb_tells}
use Rattle.std.proofs.lemmas.Option.{slice_get_past}
use Rattle.cm_class.specs.declared.constant.Constant.TheVariants as constant
use Rattle.cm_class.specs.declared.constant.Slot.{Slot}
use Rattle.cm_class.specs.declared.constant.Slot.TheVariants.{Usable, Unusable}
use Rattle.cm_class.specs.declared.class_file.ClassFile.{ClassFile}
use Rattle.cm_class.specs.Spelling.{ClassConstant, is_wide, ConstantFits, SlotsFit, HasSpelling}
use Rattle.cm_record_layout.specs.Layout.{lay, constant_words, constant_run, slot_run, directory}
use Rattle.cm_record_layout.specs.Layout.{utf8_runs, members, runs_at, attributes_at, limit}
use Rattle.cm_record_layout.specs.Layout.{IsRecordOf}
use Rattle.cm_record_layout.specs.Packing.{first_of, second_of, third_of, fourth_of, upper_of}
use Rattle.cm_record.specs.Constants.{kept_constant, is_wide_word, is_second_word, word_kept}
use Rattle.cm_record.specs.Constants.{constant_at_index, constant_kept, utf8_at}
use Rattle.cm_record_layout.proofs.{main_there, word_8, count_there}
use Rattle.cm_record_layout.proofs.{lay_len, lay_short}
use Rattle.cm_record_layout.specs.Tails.{methods_at, attributes_tail}
use Rattle.cm_class.specs.Names.{constant_in, constant_named}

-- ---- a constant from its words

one_index : (tag n next : ℕ) → tag < 2 ^ 16 → n < 2 ^ 16 → (first_of (tag + 2 ^ 32 * n) ≡ tag)
    × (third_of (tag + 2 ^ 32 * n) ≡ n)
one_index tag n next ht hn = (omega arith, omega arith)

two_indexes : (tag n k : ℕ) → tag < 2 ^ 16 → n < 2 ^ 16 → k < 2 ^ 16
    → (first_of (tag + 2 ^ 32 * n + 2 ^ 48 * k) ≡ tag)
    × (third_of (tag + 2 ^ 32 * n + 2 ^ 48 * k) ≡ n)
    × (fourth_of (tag + 2 ^ 32 * n + 2 ^ 48 * k) ≡ k)
two_indexes tag n k ht hn hk = (omega arith, omega arith, omega arith)

pub kept_of_word : (at : ℕ) (c : ClassConstant) (rest : List ℕ) → ConstantFits c → at < 2 ^ 29
    → word_kept (get_or (constant_words at c) 0 0) (get_or (constant_words at c ++ rest) 1 0)
    ≡ Some (kept_constant at c)
unfolding word_kept
kept_of_word at (constant.Utf8 bytes) rest fits small =
    let w = 1 + 2 ^ 16 * length bytes + 2 ^ 32 * at in
    let size = fits.0 in
    let tag : first_of w ≡ 1 = omega arith in
    let len : second_of w ≡ length bytes = omega arith in
    let place : upper_of w * 8 % 2 ^ 32 ≡ 8 * at = omega arith in
    rw (tag, len, place) refl
kept_of_word at (constant.Integer bits) rest fits small =
    let w = 3 + 2 ^ 32 * bits in
    let tag : first_of w ≡ 3 = omega arith in
    let same : upper_of w ≡ bits = omega arith in
    rw (tag, same) refl
kept_of_word at (constant.Float bits) rest fits small =
    let w = 4 + 2 ^ 32 * bits in
    let tag : first_of w ≡ 4 = omega arith in
    let same : upper_of w ≡ bits = omega arith in
    rw (tag, same) refl
kept_of_word at (constant.Long bits) rest fits small = refl
kept_of_word at (constant.Double bits) rest fits small = refl
kept_of_word at (constant.Class name) rest fits small = let p =
    one_index 7 name 0 (omega arith) fits in rw (p.0, p.1) refl
kept_of_word at (constant.String utf8) rest fits small = let p =
    one_index 8 utf8 0 (omega arith) fits in rw (p.0, p.1) refl
kept_of_word at (constant.Fieldref a b) rest fits small = let p =
    two_indexes 9 a b (omega arith) fits.0 fits.1 in rw (p.0, p.1, p.2) refl
kept_of_word at (constant.Methodref a b) rest fits small = let p =
    two_indexes 10 a b (omega arith) fits.0 fits.1 in rw (p.0, p.1, p.2) refl
kept_of_word at (constant.InterfaceMethodref a b) rest fits small = let p =
    two_indexes 11 a b (omega arith) fits.0 fits.1 in rw (p.0, p.1, p.2) refl
kept_of_word at (constant.NameAndType a b) rest fits small = let p =
    two_indexes 12 a b (omega arith) fits.0 fits.1 in rw (p.0, p.1, p.2) refl
kept_of_word at (constant.MethodHandle n k) rest fits small =
    let w = 15 + 2 ^ 32 * n + 2 ^ 48 * k in
    let small_n = fits.0 in
    let small_k = fits.1 in
    let tag : first_of w ≡ 15 = omega arith in
    let kind : w / 2 ^ 32 % 2 ^ 8 ≡ n = omega arith in
    let two : fourth_of w ≡ k = omega arith in
    rw (tag, kind, two) refl
kept_of_word at (constant.MethodType descriptor) rest fits small = let p =
    one_index 16 descriptor 0 (omega arith) fits in rw (p.0, p.1) refl
kept_of_word at (constant.InvokeDynamic a b) rest fits small = let p =
    two_indexes 18 a b (omega arith) fits.0 fits.1 in rw (p.0, p.1, p.2) refl

-- ---- which words are those of Longs and Doubles

narrow : (w : ℕ) → (w ≡ 5 → ⊥) → (w ≡ 6 → ⊥) → is_wide_word w ≡ false
narrow w five six = let a : (w == 5) ≡ false = ne_eqb w 5 five in let b : (w == 6) ≡ false =
    ne_eqb w 6 six in rw (a, b) refl

pub wide_by_word : (at : ℕ) (c : ClassConstant)
    → is_wide_word (get_or (constant_words at c) 0 0) ≡ is_wide c
wide_by_word at (constant.Utf8 bytes) = narrow (1 + 2 ^ 16 * length bytes + 2 ^ 32 * at)
    (λ e. omega arith) (λ e. omega arith)
wide_by_word at (constant.Integer bits) = narrow (3 + 2 ^ 32 * bits) (λ e. omega arith)
    (λ e. omega arith)
wide_by_word at (constant.Float bits) = narrow (4 + 2 ^ 32 * bits) (λ e. omega arith)
    (λ e. omega arith)
wide_by_word at (constant.Long bits) = refl
wide_by_word at (constant.Double bits) = refl
wide_by_word at (constant.Class name) = narrow (7 + 2 ^ 32 * name) (λ e. omega arith)
    (λ e. omega arith)
wide_by_word at (constant.String utf8) = narrow (8 + 2 ^ 32 * utf8) (λ e. omega arith)
    (λ e. omega arith)
wide_by_word at (constant.Fieldref a b) = narrow (9 + 2 ^ 32 * a + 2 ^ 48 * b)
    (λ e. omega arith) (λ e. omega arith)
wide_by_word at (constant.Methodref a b) = narrow (10 + 2 ^ 32 * a + 2 ^ 48 * b)
    (λ e. omega arith) (λ e. omega arith)
wide_by_word at (constant.InterfaceMethodref a b) = narrow (11 + 2 ^ 32 * a + 2 ^ 48 * b)
    (λ e. omega arith) (λ e. omega arith)
wide_by_word at (constant.NameAndType a b) = narrow (12 + 2 ^ 32 * a + 2 ^ 48 * b)
    (λ e. omega arith) (λ e. omega arith)
wide_by_word at (constant.MethodHandle a b) = narrow (15 + 2 ^ 32 * a + 2 ^ 48 * b)
    (λ e. omega arith) (λ e. omega arith)
wide_by_word at (constant.MethodType descriptor) = narrow (16 + 2 ^ 32 * descriptor)
    (λ e. omega arith) (λ e. omega arith)
wide_by_word at (constant.InvokeDynamic a b) = narrow (18 + 2 ^ 32 * a + 2 ^ 48 * b)
    (λ e. omega arith) (λ e. omega arith)

-- ---- where the words of a slot are

-- words after the first one of a constant: those of a wide constant begin with its bits
abbrev behind : Bool → ℕ → List ℕ → List ℕ
behind true bits words = bits ∷ words
behind false bits words = words

words_in_front : (at : ℕ) (c : ClassConstant) (words : List ℕ)
    → constant_words at c ++ words
    ≡ get_or (constant_words at c) 0 0
    ∷ behind (is_wide c) (get_or (constant_words at c) 1 0) words
words_in_front at (constant.Utf8 bytes) words = refl
words_in_front at (constant.Integer bits) words = refl
words_in_front at (constant.Float bits) words = refl
words_in_front at (constant.Long bits) words = refl
words_in_front at (constant.Double bits) words = refl
words_in_front at (constant.Class name) words = refl
words_in_front at (constant.String utf8) words = refl
words_in_front at (constant.Fieldref a b) words = refl
words_in_front at (constant.Methodref a b) words = refl
words_in_front at (constant.InterfaceMethodref a b) words = refl
words_in_front at (constant.NameAndType a b) words = refl
words_in_front at (constant.MethodHandle a b) words = refl
words_in_front at (constant.MethodType descriptor) words = refl
words_in_front at (constant.InvokeDynamic a b) words = refl

-- the words of a usable slot begin at its place, and its run begins after those of the slots before
-- it
pub slot_words : (second : Bool) (bits at : ℕ) (slots : List Slot) (tail : List ℕ) (i : ℕ)
    (c : ClassConstant) → SlotsFit second slots → slice_get slots i ≡ Some (Usable c)
    → (rest : List ℕ)
    × (drop i (behind second bits (directory at slots ++ tail))
    ≡ constant_words (at + length (utf8_runs (take i slots))) c ++ rest)
slot_words second bits at [] tail i c fits e = absurd (cc)
slot_words true bits at (Unusable ∷ slots) tail zero c fits e = absurd (cc)
slot_words true bits at (Unusable ∷ slots) tail (suc i) c fits e =
    slot_words false 0 at slots tail i c fits e
slot_words true bits at (Usable d ∷ slots) tail i c fits e = absurd fits
slot_words false bits at (Unusable ∷ slots) tail i c fits e = absurd fits
slot_words false bits at (Usable d ∷ slots) tail zero c fits e =
    let same : d ≡ c = cc in
    let here : at + 0 ≡ at = omega arith in (
      directory (at + length (constant_run d)) slots ++ tail,
      append_assoc (constant_words at d) (directory (at + length (constant_run d)) slots) tail
          ∙ rw (here, same) refl,
    )
slot_words false bits at (Usable d ∷ slots) tail (suc i) c fits e =
    let next = at + length (constant_run d) in
    let more =
    slot_words (is_wide d) (get_or (constant_words at d) 1 0) next slots tail i c fits.1 e in
    let place : next + length (utf8_runs (take i slots))
    ≡ at + length (constant_run d ++ utf8_runs (take i slots)) =
    omega (arith, length-append (constant_run d) (utf8_runs (take i slots))) in (
      more.0,
      ap (drop (suc i)) (append_assoc (constant_words at d) (directory next slots) tail
          ∙ words_in_front at d (directory next slots ++ tail))
          ∙ (more.1 ∙ ap (λ n. constant_words n c ++ more.0) place),
    )

pub fits_at : (second : Bool) (slots : List Slot) (i : ℕ) (c : ClassConstant)
    → SlotsFit second slots → slice_get slots i ≡ Some (Usable c) → ConstantFits c
fits_at second [] i c fits e = absurd (cc)
fits_at true (Unusable ∷ slots) zero c fits e = absurd (cc)
fits_at true (Unusable ∷ slots) (suc i) c fits e = fits_at false slots i c fits e
fits_at true (Usable d ∷ slots) i c fits e = absurd fits
fits_at false (Unusable ∷ slots) i c fits e = absurd fits
fits_at false (Usable d ∷ slots) zero c fits e = let same : d ≡ c =
    cc in subst ConstantFits same fits.0
fits_at false (Usable d ∷ slots) (suc i) c fits e = fits_at (is_wide d) slots i c fits.1 e

-- ---- which slots are unusable

abbrev pub is_unusable : Slot → Bool
is_unusable Unusable = true
is_unusable (Usable c) = false

abbrev is_wide_slot : Slot → Bool
is_wide_slot Unusable = false
is_wide_slot (Usable c) = is_wide c

first_slot : (second : Bool) (slots : List Slot) (s : Slot) → SlotsFit second slots
    → slice_get slots 0 ≡ Some s → is_unusable s ≡ second
first_slot second [] s fits e = absurd (cc)
first_slot true (Unusable ∷ slots) s fits e = let same : Unusable ≡ s =
    cc in ap is_unusable (sym same)
first_slot true (Usable d ∷ slots) s fits e = absurd fits
first_slot false (Unusable ∷ slots) s fits e = absurd fits
first_slot false (Usable d ∷ slots) s fits e = let same : Usable d ≡ s =
    cc in ap is_unusable (sym same)

next_slot : (second : Bool) (slots : List Slot) (i : ℕ) (s t : Slot) → SlotsFit second slots
    → slice_get slots i ≡ Some s → slice_get slots (suc i) ≡ Some t → is_unusable t ≡ is_wide_slot s
next_slot second [] i s t fits e f = absurd (cc)
next_slot true (Unusable ∷ slots) zero s t fits e f = let same : Unusable ≡ s =
    cc in first_slot false slots t fits f ∙ ap is_wide_slot same
next_slot true (Unusable ∷ slots) (suc i) s t fits e f = next_slot false slots i s t fits e f
next_slot true (Usable d ∷ slots) i s t fits e f = absurd fits
next_slot false (Unusable ∷ slots) i s t fits e f = absurd fits
next_slot false (Usable d ∷ slots) zero s t fits e f = let same : Usable d ≡ s =
    cc in first_slot (is_wide d) slots t fits.1 f ∙ ap is_wide_slot same
next_slot false (Usable d ∷ slots) (suc i) s t fits e f =
    next_slot (is_wide d) slots i s t fits.1 e f

slot_before : {A : Type 0} (xs : List A) (i : ℕ) (x : A) → slice_get xs (suc i) ≡ Some x
    → (y : A) × (slice_get xs i ≡ Some y)
slot_before [] i x e = absurd (cc)
slot_before (y ∷ xs) zero x e = (y, refl)
slot_before (y ∷ xs) (suc i) x e = slot_before xs i x e

slot_in : {A : Type 0} (xs : List A) (i : ℕ) → i < length xs → (x : A) × (slice_get xs i ≡ Some x)
slot_in [] i h = absurd (omega arith)
slot_in (x ∷ xs) zero h = (x, refl)
slot_in (x ∷ xs) (suc i) h = slot_in xs i (omega arith)

and_false : (b : Bool) → (b && false) ≡ false
and_false true = refl
and_false false = refl

and_true : (b : Bool) → (b && true) ≡ b
and_true true = refl
and_true false = refl

runs_up_to : (slots : List Slot) (i : ℕ)
    → length (utf8_runs (take i slots)) ≤ length (utf8_runs slots)
runs_up_to [] zero = omega arith
runs_up_to [] (suc i) = omega arith
runs_up_to (s ∷ slots) zero = omega arith
runs_up_to (s ∷ slots) (suc i) =
    omega (
      arith,
      runs_up_to slots i,
      length-append (slot_run s) (utf8_runs (take i slots)),
      length-append (slot_run s) (utf8_runs slots),
    )

-- ---- the constants of a class

module _ (c : ClassFile) (spelled : HasSpelling c) where
  abbrev pub words_at : ℕ → ℕ
  words_at i = runs_at c + length (utf8_runs (take i c.slots))

  -- the words of a usable slot
  pub slot_there : (i k : ℕ) (d : ClassConstant) → k ≡ 9 + i → slice_get c.slots i ≡ Some (Usable d)
      → (rest : List ℕ) × (drop k (lay c) ≡ constant_words (words_at i) d ++ rest)
  slot_there i k d ek e =
      let tail =
      c.interfaces ++ (members (attributes_at c) c.fields
      ++ (members (methods_at c) c.methods ++ attributes_tail c)) in
      let found = slot_words false 0 (runs_at c) c.slots tail i d spelled.slots e in (
        found.0,
        ap
            (λ n. drop n (lay c)) ek
            ∙ (sym (drop-drop i 9 (lay c)) ∙ (ap (drop i) (main_there c spelled) ∙ found.1)),
      )

  slot_word : (i k : ℕ) (d : ClassConstant) → k ≡ 9 + i → slice_get c.slots i ≡ Some (Usable d)
      → get_or (lay c) k 0 ≡ get_or (constant_words (words_at i) d) 0 0
  slot_word i k d ek e =
      let found = slot_there i k d ek e in
      let here : k ≡ k + 0 = omega arith in
      ap (λ n. get_or (lay c) n 0) here ∙ (sym (get_or-drop k (lay c) 0 0) ∙ (ap
      (λ w. get_or w 0 0) (found.1 ∙ words_in_front (words_at i) d found.0)))

  -- the word of a slot says whether the next slot is its second
  word_says : (i k : ℕ) (t : Slot) → k ≡ 9 + i → slice_get c.slots i ≡ Some t
      → is_second_word (lay c) k ≡ is_unusable t
      → (is_wide_word (get_or (lay c) k 0) && not (is_second_word (lay c) k)) ≡ is_wide_slot t
  word_says i k Unusable ek there ih = ap
      (λ b. is_wide_word (get_or (lay c) k 0) && not b) ih
      ∙ and_false (is_wide_word (get_or (lay c) k 0))
  word_says i k (Usable d) ek there ih =
      ap (λ b. is_wide_word (get_or (lay c) k 0) && not b) ih
      ∙ (and_true (is_wide_word (get_or (lay c) k 0))
      ∙ (ap is_wide_word (slot_word i k d ek there) ∙ wide_by_word (words_at i) d))

  pub second_is : (i k : ℕ) (s : Slot) → k ≡ 9 + i → slice_get c.slots i ≡ Some s
      → is_second_word (lay c) k ≡ is_unusable s
  second_is i zero s ek e = absurd (omega arith)
  second_is zero (suc k) s ek e =
      let same : k ≡ 8 = omega arith in
      let first : get_or (lay c) k 0 ≡ 0 = ap (λ n. get_or (lay c) n 0) same ∙ word_8 c in
      ap (λ w. is_wide_word w && not (is_second_word (lay c) k)) first
      ∙ sym (first_slot false c.slots s spelled.slots e)
  second_is (suc i) (suc k) s ek e =
      let before = slot_before c.slots i s e in
      let same : k ≡ 9 + i = omega arith in
      word_says i k before.0 same before.1 (second_is i k before.0 same before.1)
      ∙ sym (next_slot false c.slots i before.0 s spelled.slots before.1 e)

  pub words_within : (i : ℕ) → words_at i ≤ length (lay c)
  words_within i = omega (arith, runs_up_to c.slots i, lay_len c spelled)

  module _ (short : length (lay c) ≤ limit) where
    pub word_place_small : (i : ℕ) → words_at i < 2 ^ 29
    word_place_small i = omega (arith, runs_up_to c.slots i, lay_len c spelled, short)

    kept_at : (i k : ℕ) (d : ClassConstant) → k ≡ 9 + i → slice_get c.slots i ≡ Some (Usable d)
        → word_kept (get_or (lay c) k 0) (get_or (lay c) (k + 1) 0)
        ≡ Some (kept_constant (words_at i) d)
    kept_at i k d ek e =
        let found = slot_there i k d ek e in
        let words = constant_words (words_at i) d ++ found.0 in
        let next : get_or (lay c) (k + 1) 0 ≡ get_or words 1 0 =
        sym (get_or-drop k (lay c) 1 0) ∙ ap (λ w. get_or w 1 0) found.1 in
        (λ j. word_kept (slot_word i k d ek e j) (next j))
        ∙ kept_of_word (words_at i) d found.0 (fits_at false c.slots i d spelled.slots e)
        (word_place_small i)

    -- what is found at a slot's word
    slot_found : (i k : ℕ) (s : Slot) → k ≡ 9 + i → slice_get c.slots i ≡ Some s
        → (if is_second_word (lay c) k then None
        else word_kept (get_or (lay c) k 0) (get_or (lay c) (k + 1) 0))
        ≡ option_map (kept_constant (words_at i)) (constant_in s)
    slot_found i k Unusable ek e = let second = second_is i k Unusable ek e in rw second refl
    slot_found i k (Usable d) ek e = let second = second_is i k (Usable d) ek e in
        rw second (kept_at i k d ek e)

    pub constant_is : (index : ℕ) → constant_at_index (lay c) index ≡ constant_kept c index
    constant_is zero = refl
    constant_is (suc i) =
        let count = count_there c spelled in
        let some : (suc i == 0) ≡ false = ne_eqb (suc i) 0 (λ e. omega arith) in
        elim (leb_tells (length c.slots) i) [
          | inl h ↦ let past = h.1 in
              let beyond : nat_le (first_of (get_or (lay c) 2 0)) (suc i) ≡ true =
              le-leb (first_of (get_or (lay c) 2 0)) (suc i) (omega (arith, count)) in
              rw (some, beyond) (ap
              (λ o. option_map (kept_constant (utf8_at c (suc i))) (option_and_then constant_in o))
              (sym (slice_get_past c.slots i past)))
          | inr h ↦ let within = h.1 in
              let inside : nat_le (first_of (get_or (lay c) 2 0)) (suc i) ≡ false =
              lt-leb (first_of (get_or (lay c) 2 0)) (suc i) (omega (arith, count)) in
              let s = slot_in c.slots i within in
              let place : suc i - 1 ≡ i = omega arith in
              let k : 8 + suc i ≡ 9 + i = omega arith in
              rw (some, inside) (
              let next : 9 + suc i ≡ 8 + suc i + 1 = omega arith in
              ap (λ n. if is_second_word (lay c) (8 + suc i) then None
              else word_kept (get_or (lay c) (8 + suc i) 0) (get_or (lay c) n 0)) next
              ∙ (slot_found i (8 + suc i) s.0 k s.1 ∙ (ap
              (λ o. option_map (kept_constant (words_at i)) (option_and_then constant_in o))
              (sym s.1) ∙ ap (λ n. option_map (kept_constant (words_at n))
              (constant_named c (suc i))) (sym place))))
        ]

-- the same of the words of a record
pub constant_read : (c : ClassFile) (words : List ℕ) → IsRecordOf c words → (index : ℕ)
    → constant_at_index words index ≡ constant_kept c index
constant_read c words is index = ap
    (λ w. constant_at_index w index) is.laid
    ∙ constant_is c is.spelled (lay_short c words is) index
