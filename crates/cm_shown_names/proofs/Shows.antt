-- The bytes of a record show the name of its class.
-- For `record_shows_name`, and for crates above.
use Rattle.std.proofs.Common.{◌≡◌, ◌≤◌, ◌<◌, ◌+◌, ◌-◌, ◌*◌, ◌%◌, ◌^◌, ℕ, zero, suc, false, List}
use Rattle.std.proofs.Common.{[], ◌∷◌, ◌++◌, length, take, drop, get_or, slice_get, Some, refl, sym}
use Rattle.std.proofs.Common.{◌∙◌}
use Rattle.std.proofs.Common.{ap, arith, drop-drop, get_or-drop, inl, inr}
use Rattle.std.proofs.lemmas.Bool.{cases_lt, le-leb}
use Rattle.std.proofs.lemmas.List.{length-drop, take-append-drop, take-append-le}
use Rattle.std.proofs.lemmas.List.{take_all, append-nil}
use Rattle.std.proofs.Math.Seq.{take-append-add}
use Rattle.cm_class.specs.declared.constant.Constant.TheVariants as constant
use Rattle.cm_class.specs.declared.constant.Slot.TheVariants.{Usable}
use Rattle.cm_class.specs.declared.class_file.ClassFile.{ClassFile}
use Rattle.cm_class.specs.Names.{class_name_of}
use Rattle.cm_class.specs.Spelling.{AreBytes, ClassConstant}
use Rattle.cm_record_layout.specs.Layout.{lay, constant_words, IsRecordOf}
use Rattle.cm_record_layout.specs.Packing.{word_from, bytes_of, packed_into, packed, run_words}
use Rattle.cm_record_layout.specs.Packing.{first_of, second_of, third_of, upper_of}
use Rattle.cm_record_layout.proofs.{front_back, length-bytes_of, length-packed_into}
use Rattle.cm_record_layout.proofs.{directory_within, count_there, this_there}
use Rattle.cm_shown_names.specs.Itself.{NamesItself}
use Rattle.cm_shown_names.specs.Shown.{word_in, text_at, text_shown, class_shown, name_shown}
use Rattle.cm_shown_names.proofs.Places.{fits_at, run_at_slot, run_within, slot_there, run_there}

-- ---- words and their bytes

word_at : (n place : ℕ) (bytes : List ℕ) → place < n
    → word_in bytes place ≡ get_or (packed_into n bytes) place 0
word_at zero place bytes lt = absurd (omega arith)
word_at (suc n) zero bytes lt = refl
word_at (suc n) (suc place) bytes lt =
    let on : 8 * suc place ≡ 8 + 8 * place = omega arith in
    ap (λ k. word_from (drop k bytes)) on
    ∙ (ap word_from (sym (drop-drop (8 * place) 8 bytes))
    ∙ word_at n place (drop 8 bytes) (omega arith))

words_after : (place n m : ℕ) (bytes : List ℕ) → place + m ≡ n
    → drop place (packed_into n bytes) ≡ packed_into m (drop (8 * place) bytes)
words_after zero n m bytes e =
    let same : n ≡ m = omega arith in ap (λ k. packed_into k bytes) same
words_after (suc place) zero m bytes e = absurd (omega arith)
words_after (suc place) (suc n) m bytes e =
    let on : 8 + 8 * place ≡ 8 * suc place = omega arith in
    words_after place n m (drop 8 bytes) (omega arith)
    ∙ ap (packed_into m) (drop-drop (8 * place) 8 bytes ∙ ap (λ k. drop k bytes) on)

drop_fits : (n : ℕ) (bytes : List ℕ) → AreBytes bytes → AreBytes (drop n bytes)
drop_fits zero bytes are = are
drop_fits (suc n) [] are = tt
drop_fits (suc n) (b ∷ bytes) are = drop_fits n bytes are.1

-- the first bytes of eight and of what follows these
take_across : (n : ℕ) (eight rest : List ℕ) → length eight ≡ 8
    → take n (eight ++ rest) ≡ take n eight ++ take (n - 8) rest
take_across n eight rest e = elim (cases_lt n 8) [
  | inl lt ↦
      let none : n - 8 ≡ 0 = omega arith in
      take-append-le n eight rest (omega (arith, e)) ∙ rw none (sym (append-nil (take n eight)))
  | inr le ↦
      let parts : length eight + (n - 8) ≡ n = omega (arith, e) in
      ap (λ k. take k (eight ++ rest)) (sym parts)
      ∙ (take-append-add eight rest (n - 8) ∙ ap
      (λ w. w ++ take (n - 8) rest) (sym (take_all n eight (omega (arith, e)))))
]

-- bytes whose words begin with the run of a text begin with the text
record BeginsWith (bytes text : List ℕ) : Type 0 where
  begins : take (length text) bytes ≡ text
  long : length text ≤ length bytes

begin_with : (k n : ℕ) (bytes text rest : List ℕ) → AreBytes bytes → AreBytes text
    → length bytes ≡ 8 * n → run_words (length text) ≡ k
    → packed_into n bytes ≡ packed_into k text ++ rest → BeginsWith bytes text
begin_with zero n bytes [] rest are texts long run e = record { begins = refl; long = omega arith }
begin_with zero n bytes (b ∷ text) rest are texts long run e = absurd (omega arith)
begin_with (suc k) zero bytes text rest are texts long run e = absurd (cc)
begin_with (suc k) (suc n) bytes text rest are texts long run e =
    let word : word_from bytes ≡ word_from text = cc in
    let others : packed_into n (drop 8 bytes) ≡ packed_into k (drop 8 text) ++ rest = cc in
    let rest_long : length (drop 8 bytes) ≡ 8 * n = omega (arith, length-drop 8 bytes) in
    let fewer : run_words (length (drop 8 text)) ≡ k = omega (arith, length-drop 8 text) in
    let more = begin_with k n (drop 8 bytes) (drop 8 text) rest (drop_fits 8 bytes are)
    (drop_fits 8 text texts) rest_long fewer others in
    let eight : take 8 bytes ≡ bytes_of (word_from bytes) =
    sym (front_back bytes are)
    ∙ take_all (length bytes) (bytes_of (word_from bytes))
    (omega (arith, length-bytes_of (word_from bytes))) in
    let front : take (length text) (take 8 bytes) ≡ take 8 text =
    ap (take (length text)) (eight ∙ ap bytes_of word) ∙ front_back text texts in
    let size : length text - 8 ≡ length (drop 8 text) = omega (arith, length-drop 8 text) in
    let whole : take 8 bytes ++ drop 8 bytes ≡ bytes = take-append-drop 8 bytes in
    let eight_long : length (take 8 bytes) ≡ 8 =
    ap length eight ∙ length-bytes_of (word_from bytes) in
    let all : take (length text) (take 8 bytes ++ drop 8 bytes) ≡ text =
    take_across (length text) (take 8 bytes) (drop 8 bytes) eight_long
    ∙ ((λ i. front i ++ take (size i) (drop 8 bytes))
    ∙ (ap (λ w. take 8 text ++ w) more.begins ∙ take-append-drop 8 text)) in
    let tail_long = more.long in
    record {
      begins = ap (take (length text)) (sym whole) ∙ all;
      long = omega (arith, length-drop 8 text);
    }

-- ---- what words of the directory show

class_word : (bytes : List ℕ) (word name : ℕ) → name < 2 ^ 16 → word ≡ 7 + 2 ^ 32 * name
    → class_shown bytes word ≡ text_shown bytes (word_in bytes (8 + name))
class_word bytes word name small e =
    let first : first_of word ≡ 7 = omega arith in
    let third : third_of word ≡ name = omega arith in rw (first, third) refl

text_word : (bytes : List ℕ) (word len at : ℕ) → len < 2 ^ 16 → at < 2 ^ 29
    → word ≡ 1 + 2 ^ 16 * len + 2 ^ 32 * at
    → text_shown bytes word ≡ text_at bytes (8 * at) len
text_word bytes word len at small low e =
    let first : first_of word ≡ 1 = omega arith in
    let upper : upper_of word ≡ at = omega arith in
    let place : at * 8 % 2 ^ 32 ≡ 8 * at = omega arith in
    let second : second_of word ≡ len = omega arith in rw (first, upper, second, place) refl

text_whole : (bytes text : List ℕ) (at : ℕ) → at ≤ length bytes → BeginsWith (drop at bytes) text
    → text_at bytes at (length text) ≡ Some text
text_whole bytes text at within b =
    let fits : at + length text ≤ length bytes = omega (arith, b.long, length-drop at bytes) in
    rw (le-leb (at + length text) (length bytes) fits) (ap (λ t. Some t) b.begins)

-- ---- the name

module _ (n : ℕ) (bytes : List ℕ) (c : ClassFile) (are : AreBytes bytes)
    (long : length bytes ≡ 8 * n) (is : IsRecordOf c (packed_into n bytes)) where
  words_long : length (lay c) ≡ n
  words_long = sym (ap length is.laid) ∙ length-packed_into n bytes

  word_there : (place : ℕ) → place < n → word_in bytes place ≡ get_or (lay c) place 0
  word_there place lt = word_at n place bytes lt ∙ ap (λ w. get_or w place 0) is.laid

  slots_within : 9 + length c.slots ≤ n
  slots_within =
      let count : first_of (get_or (packed_into n bytes) 2 0) ≡ length c.slots + 1 =
      ap (λ w. first_of (get_or w 2 0)) is.laid ∙ count_there c is.spelled in
      omega (
        arith,
        directory_within (packed_into n bytes) (c, is),
        count,
        length-packed_into n bytes,
      )

  slot_within : (i : ℕ) (d : ClassConstant) → slice_get c.slots i ≡ Some (Usable d) → 9 + i < n
  slot_within i d e = omega (arith, slots_within, within c.slots i e)
    where
      within : (slots : List _) (i : ℕ) → slice_get slots i ≡ Some (Usable d) → i < length slots
      within [] i e = absurd (cc)
      within (s ∷ slots) zero e = omega arith
      within (s ∷ slots) (suc i) e = let lt = within slots i e in omega arith

  -- the directory's word of a slot
  slot_word : (i : ℕ) (d : ClassConstant) → slice_get c.slots i ≡ Some (Usable d) → (rest : List ℕ)
      × (word_in bytes (8 + suc i)
      ≡ get_or (constant_words (run_at_slot c is.spelled i) d ++ rest) 0 0)
  slot_word i d e =
      let found = slot_there c is.spelled i d e in
      let place : 8 + suc i ≡ 9 + i + 0 = omega arith in
      let lt = slot_within i d e in (
        found.0,
        word_there (8 + suc i) (omega arith)
            ∙ (ap (λ k. get_or (lay c) k 0) place
            ∙ (sym (get_or-drop (9 + i) (lay c) 0 0) ∙ ap (λ w. get_or w 0 0) found.1)),
      )

  class_there : (i name : ℕ) → slice_get c.slots i ≡ Some (Usable (constant.Class name))
      → class_shown bytes (word_in bytes (8 + suc i))
      ≡ text_shown bytes (word_in bytes (8 + name))
  class_there i name e =
      class_word bytes (word_in bytes (8 + suc i)) name
      (fits_at false c.slots i (constant.Class name) is.spelled.slots e)
      (slot_word i (constant.Class name) e).1

  text_there : (i : ℕ) (text : List ℕ) → slice_get c.slots i ≡ Some (Usable (constant.Utf8 text))
      → text_shown bytes (word_in bytes (8 + suc i)) ≡ Some text
  text_there i text e =
      let at = run_at_slot c is.spelled i in
      let run = run_there c is.spelled i text e in
      let fits = fits_at false c.slots i (constant.Utf8 text) is.spelled.slots e in
      let within : at ≤ n = omega (arith, run_within c is.spelled i, words_long) in
      let low : at < 2 ^ 29 =
      omega (arith, run_within c is.spelled i, ap length is.laid, is.short) in
      let some : at + (n - at) ≡ n = omega arith in
      let words : packed_into (n - at) (drop (8 * at) bytes) ≡ packed text ++ run.0 =
      sym (words_after at n (n - at) bytes some) ∙ (ap (drop at) is.laid ∙ run.1) in
      let rest_long : length (drop (8 * at) bytes) ≡ 8 * (n - at) =
      omega (arith, length-drop (8 * at) bytes, long) in
      let inside : 8 * at ≤ length bytes = omega (arith, long) in
      text_word bytes (word_in bytes (8 + suc i)) (length text) at fits.0 low
      (slot_word i (constant.Utf8 text) e).1
      ∙ text_whole bytes text (8 * at) inside
      (begin_with (run_words (length text)) (n - at) (drop (8 * at) bytes) text run.0
      (drop_fits (8 * at) bytes are) fits.1 rest_long refl words)

  named : (t : NamesItself c) → class_name_of c ≡ t.text
  named t = rw (t.this_is, t.class_is, t.text_is) refl

  pub shows : NamesItself c → name_shown bytes ≡ Some (class_name_of c)
  unfolding name_shown
  shows t =
      let first : word_in bytes 1 ≡ get_or (lay c) 1 0 =
      word_there 1 (omega (arith, slots_within)) in
      let index : second_of (word_in bytes 1) ≡ suc t.class_at =
      ap second_of first ∙ (this_there c is.spelled ∙ t.this_is) in
      ap (λ k. class_shown bytes (word_in bytes (8 + k))) index
      ∙ (class_there t.class_at (suc t.text_at_slot) t.class_is
      ∙ (text_there t.text_at_slot t.text t.text_is ∙ ap (λ s. Some s) (sym (named t))))
