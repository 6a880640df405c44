-- The texts of all Utf8s, and the words that they lie in.
-- For `are_characters`, `count_characters`, `has_form_at`, `LaidClass::utf8_words`.
use Rattle.std.proofs.Common.{◌≡◌, ◌≤◌, ◌<◌, ◌+◌, ◌-◌, ◌*◌, ℕ, zero, suc, Bool, true, false, List}
use Rattle.std.proofs.Common.{[], ◌∷◌, ◌++◌, length, take, drop, get_or, slice_get, replicate}
use Rattle.std.proofs.Common.{Option, Some, None, refl, sym, ap, ◌∙◌, arith, inl, inr, cond}
use Rattle.std.proofs.Common.{length-append}
use Rattle.std.specs.Prelude.{option_and_then, ◌/◌}
use Rattle.std.specs.Int.{w64, from_le_bytes}
use Rattle.std.specs.List.{list_all}
use Rattle.std.specs.Option.{option_map_or}
use Rattle.std.proofs.lemmas.List.{length-take, length-replicate, take_all, take_more, length-drop}
use Rattle.std.proofs.lemmas.List.{get_or-take, get_or-append_right, get_or_append_left}
use Rattle.std.proofs.lemmas.List.{get_or-replicate, get_or_past, take-append-drop, append-nil}
use Rattle.std.proofs.lemmas.List.{take_at}
use Rattle.std.proofs.lemmas.Grind.{flat_map-append}
use Rattle.std.proofs.lemmas.Nat.{le_bytes_8}
use Rattle.std.proofs.lemmas.Bool.{cases_lt}
use Rattle.cm_class.specs.declared.constant.Constant.TheVariants as constant
use Rattle.cm_class.specs.declared.constant.Slot.{Slot}
use Rattle.cm_class.specs.declared.constant.Slot.TheVariants.{Usable, Unusable}
use Rattle.cm_class.specs.declared.class_file.ClassFile.{ClassFile}
use Rattle.cm_class.specs.Names.{utf8, utf8_in, constant_in}
use Rattle.cm_class.specs.Spelling.{AreBytes, SlotsFit, ConstantFits, ClassConstant, is_wide}
use Rattle.cm_class.proofs.{AreBytes-at}
use Rattle.cm_constraints.specs.Constants.{in_slot, utf8_has_form}
use Rattle.cm_descriptors.specs.Forms.{has_utf8_form, has_utf8_form_after}
use Rattle.cm_record_layout.specs.Packing.{word_from, bytes_of, word_bytes, packed_into}
use Rattle.cm_record_layout.specs.Packing.{run_words}
use Rattle.cm_record_layout.specs.Layout.{utf8_runs, slot_run}
use Rattle.cm_record_layout.proofs.{word_same, packed_len}
use Rattle.cm_record_rules.specs.Plain.{is_character, count_characters, slot_text, texts}
use Rattle.cm_rules.proofs.{left, right, both}
use Rattle.cm_record_rules.proofs.Filled.{length-word_bytes}
use Rattle.cm_record_rules.proofs.RunBytes.{drop_fits, bytes_from_word}

-- ---- counting

pub count-append : (xs ys : List ℕ)
    → count_characters (xs ++ ys) ≡ count_characters xs + count_characters ys
count-append [] ys = omega arith
count-append (x ∷ xs) ys = omega (arith, count-append xs ys)

pub count_split : (n : ℕ) (xs : List ℕ)
    → count_characters (take n xs) + count_characters (drop n xs) ≡ count_characters xs
count_split n xs =
    sym (count-append (take n xs) (drop n xs)) ∙ ap count_characters (take-append-drop n xs)

count_zeros : (n : ℕ) → count_characters (replicate n 0) ≡ 0
count_zeros zero = refl
count_zeros (suc n) = omega (arith, count_zeros n)

one_at_most : (b : Bool) → cond b 1 0 ≤ 1
one_at_most true = omega arith
one_at_most false = omega arith

pub count_most : (xs : List ℕ) → count_characters xs ≤ length xs
count_most [] = omega arith
count_most (x ∷ xs) = omega (arith, one_at_most (is_character x), count_most xs)

-- if all are counted, all are characters
all_counted : (xs : List ℕ) → count_characters xs ≡ length xs → list_all is_character xs ≡ true
all_counted [] e = refl
all_counted (x ∷ xs) e = by_test (is_character x) refl (all_counted xs)
  where
    by_test : (b : Bool) → is_character x ≡ b
        → (count_characters xs ≡ length xs → list_all is_character xs ≡ true)
        → list_all is_character (x ∷ xs) ≡ true
    by_test true h others =
        both (is_character x) (list_all is_character xs) h
        (others (omega (arith, e, ap {B = ℕ} (λ t. cond t 1 0) h)))
    by_test false h others =
        absurd (omega (arith, e, ap {B = ℕ} (λ t. cond t 1 0) h, count_most xs))

-- ---- the bytes of a run's words

-- eight bytes, filled up with zeros if there are fewer
filled : List ℕ → List ℕ
filled bytes = take 8 bytes ++ replicate (8 - length bytes) 0

filled_at : (bytes : List ℕ) (k : ℕ) → k < 8 → get_or (filled bytes) k 0 ≡ get_or bytes k 0
unfolding filled
filled_at bytes k lt = elim (cases_lt k (length bytes)) [
  | inl inside ↦
      let front : k < length (take 8 bytes) = omega (arith, length-take 8 bytes) in
      let there : get_or (filled bytes) k 0 ≡ get_or (take 8 bytes) k 0 =
      get_or_append_left (take 8 bytes) (replicate (8 - length bytes) 0) 0 k front in
      there ∙ get_or-take 8 bytes k 0 lt
  | inr past ↦
      let whole : length (take 8 bytes) ≤ k = omega (arith, length-take 8 bytes) in
      let zeros : k - length (take 8 bytes) < 8 - length bytes =
      omega (arith, length-take 8 bytes) in
      let there : get_or (filled bytes) k 0
      ≡ get_or (replicate (8 - length bytes) 0) (k - length (take 8 bytes)) 0 =
      get_or-append_right (take 8 bytes) (replicate (8 - length bytes) 0) (length (take 8 bytes)) k
      0 refl whole in
      there ∙ (get_or-replicate (8 - length bytes) (k - length (take 8 bytes)) 0 0 zeros
      ∙ sym (get_or_past bytes k 0 past))
]

filled_len : (bytes : List ℕ) → length (filled bytes) ≡ 8
unfolding filled
filled_len bytes =
    omega (
      arith,
      length-append (take 8 bytes) (replicate (8 - length bytes) 0),
      length-take 8 bytes,
      length-replicate {A = ℕ} (8 - length bytes) 0,
    )

filled_small : (bytes : List ℕ) → AreBytes bytes → (i : ℕ) → get_or (filled bytes) i 0 < 256
filled_small bytes are i = elim (cases_lt i 8) [
  | inl lt ↦ omega (arith, filled_at bytes i lt, AreBytes-at bytes are i)
  | inr past ↦ omega (arith, get_or_past (filled bytes) i 0 (omega (arith, filled_len bytes)))
]

word_filled : (bytes : List ℕ) → AreBytes bytes → bytes_of (word_from bytes) ≡ filled bytes
unfolding bytes_of filled
word_filled bytes are =
    let same : from_le_bytes w64 (filled bytes) ≡ word_from bytes =
    word_same (filled bytes) bytes (filled_at bytes) in
    le_bytes_8 (filled bytes) (word_from bytes) (filled_len bytes) (filled_small bytes are)
    (sym same)

count_word : (bytes : List ℕ) → AreBytes bytes
    → count_characters (bytes_of (word_from bytes)) ≡ count_characters (take 8 bytes)
unfolding filled
count_word bytes are =
    ap count_characters (word_filled bytes are)
    ∙ omega (
      arith,
      count-append (take 8 bytes) (replicate (8 - length bytes) 0),
      count_zeros (8 - length bytes),
    )

-- the words of a run have the characters of its bytes, and no more
count_run : (n : ℕ) (xs : List ℕ) → run_words (length xs) ≡ n → AreBytes xs
    → count_characters (word_bytes (packed_into n xs)) ≡ count_characters xs
count_run zero [] e are = refl
count_run zero (b ∷ xs) e are = absurd (omega arith)
count_run (suc n) xs e are =
    let fewer : run_words (length (drop 8 xs)) ≡ n = omega (arith, length-drop 8 xs) in
    omega (
      arith,
      count-append (bytes_of (word_from xs)) (word_bytes (packed_into n (drop 8 xs))),
      count_word xs are,
      count_run n (drop 8 xs) fewer (drop_fits 8 xs are),
      count_split 8 xs,
    )

-- ---- all Utf8s

run_len : (slot : Slot) → length (slot_run slot) ≡ run_words (length (slot_text slot))
run_len (Usable (constant.Utf8 bytes)) = packed_len bytes
run_len (Usable (constant.Integer bits)) = refl
run_len (Usable (constant.Float bits)) = refl
run_len (Usable (constant.Long bits)) = refl
run_len (Usable (constant.Double bits)) = refl
run_len (Usable (constant.Class name)) = refl
run_len (Usable (constant.String text)) = refl
run_len (Usable (constant.Fieldref a b)) = refl
run_len (Usable (constant.Methodref a b)) = refl
run_len (Usable (constant.InterfaceMethodref a b)) = refl
run_len (Usable (constant.NameAndType a b)) = refl
run_len (Usable (constant.MethodHandle a b)) = refl
run_len (Usable (constant.MethodType descriptor)) = refl
run_len (Usable (constant.InvokeDynamic a b)) = refl
run_len Unusable = refl

count_constant : (d : ClassConstant) → ConstantFits d
    → count_characters (word_bytes (slot_run (Usable d))) ≡ count_characters (slot_text (Usable d))
count_constant (constant.Utf8 bytes) fit = count_run (run_words (length bytes)) bytes refl fit.1
count_constant (constant.Integer bits) fit = refl
count_constant (constant.Float bits) fit = refl
count_constant (constant.Long bits) fit = refl
count_constant (constant.Double bits) fit = refl
count_constant (constant.Class name) fit = refl
count_constant (constant.String text) fit = refl
count_constant (constant.Fieldref a b) fit = refl
count_constant (constant.Methodref a b) fit = refl
count_constant (constant.InterfaceMethodref a b) fit = refl
count_constant (constant.NameAndType a b) fit = refl
count_constant (constant.MethodHandle a b) fit = refl
count_constant (constant.MethodType descriptor) fit = refl
count_constant (constant.InvokeDynamic a b) fit = refl

-- the words of all Utf8s have the characters of their texts, and no more
count_runs : (second : Bool) (slots : List Slot) → SlotsFit second slots
    → count_characters (word_bytes (utf8_runs slots)) ≡ count_characters (texts slots)
count_runs true [] fit = absurd fit
count_runs true (Unusable ∷ slots) fit = count_runs false slots fit
count_runs true (Usable d ∷ slots) fit = absurd fit
count_runs false [] fit = refl
count_runs false (Unusable ∷ slots) fit = absurd fit
count_runs false (Usable d ∷ slots) fit =
    omega (
      arith,
      ap count_characters (flat_map-append bytes_of (slot_run (Usable d)) (utf8_runs slots)),
      count-append (word_bytes (slot_run (Usable d))) (word_bytes (utf8_runs slots)),
      count_constant d fit.0,
      count_runs (is_wide d) slots fit.1,
      count-append (slot_text (Usable d)) (texts slots),
    )

pub texts_there : (c : ClassFile) → SlotsFit false c.slots → (words rest : List ℕ) (at len : ℕ)
    → drop at words ≡ utf8_runs c.slots ++ rest → len ≡ 8 * length (utf8_runs c.slots)
    → count_characters (take len (drop (8 * at) (word_bytes words)))
    ≡ count_characters (texts c.slots)
texts_there c fit words rest at len there size =
    let runs = utf8_runs c.slots in
    let behind : drop (8 * at) (word_bytes words) ≡ word_bytes runs ++ word_bytes rest =
    bytes_from_word at words
    ∙ (ap word_bytes there ∙ flat_map-append bytes_of runs rest) in
    let taken : take len (drop (8 * at) (word_bytes words)) ≡ word_bytes runs =
    ap (take len) behind
    ∙ take_at (word_bytes runs) (word_bytes rest) len (length-word_bytes runs ∙ sym size) in
    ap count_characters taken ∙ count_runs false c.slots fit

-- ---- one slot more

text_in : (d : ClassConstant) → utf8_in d ≡ slot_text (Usable d)
text_in (constant.Utf8 bytes) = refl
text_in (constant.Integer bits) = refl
text_in (constant.Float bits) = refl
text_in (constant.Long bits) = refl
text_in (constant.Double bits) = refl
text_in (constant.Class name) = refl
text_in (constant.String text) = refl
text_in (constant.Fieldref a b) = refl
text_in (constant.Methodref a b) = refl
text_in (constant.InterfaceMethodref a b) = refl
text_in (constant.NameAndType a b) = refl
text_in (constant.MethodHandle a b) = refl
text_in (constant.MethodType descriptor) = refl
text_in (constant.InvokeDynamic a b) = refl

text_there : (slots : List Slot) (i : ℕ) → i < length slots
    → option_map_or utf8_in (option_and_then constant_in (slice_get slots i)) []
    ≡ slot_text (get_or slots i Unusable)
text_there [] i h = absurd (omega arith)
text_there (Usable d ∷ slots) zero h = text_in d
text_there (Unusable ∷ slots) zero h = refl
text_there (s ∷ slots) (suc i) h = text_there slots i (omega arith)

module _ (c : ClassFile) (i j len : ℕ) (next : j ≡ i + 1) (lt : i < length c.slots)
    (is : len ≡ length (utf8 c j)) where
  here : Slot
  here = get_or c.slots i Unusable

  len_here : len ≡ length (slot_text here)
  unfolding here
  len_here =
      let count : i + 1 ≡ suc i = omega arith in
      is ∙ ap length (ap (utf8 c) (next ∙ count) ∙ text_there c.slots i lt)

  taken : take j c.slots ≡ take i c.slots ++ here ∷ []
  unfolding here
  taken = ap (λ n. take n c.slots) next ∙ take_more c.slots i Unusable lt

  pub more_text : (bytes : ℕ) → bytes ≡ length (texts (take i c.slots))
      → bytes + len ≡ length (texts (take j c.slots))
  more_text bytes so_far =
      omega (
        arith,
        so_far,
        len_here,
        ap (λ slots. length (texts slots)) taken,
        ap length (flat_map-append slot_text (take i c.slots) (here ∷ [])),
        length-append (texts (take i c.slots)) (texts (here ∷ [])),
        ap length (append-nil (slot_text here)),
      )

  pub more_runs : (size : ℕ) → size ≡ 8 * length (utf8_runs (take i c.slots))
      → size + (len + 7) / 8 * 8 ≡ 8 * length (utf8_runs (take j c.slots))
  more_runs size so_far =
      omega (
        arith,
        so_far,
        len_here,
        run_len here,
        ap (λ slots. length (utf8_runs slots)) taken,
        ap length (flat_map-append slot_run (take i c.slots) (here ∷ [])),
        length-append (utf8_runs (take i c.slots)) (utf8_runs (here ∷ [])),
        ap length (append-nil (slot_run here)),
      )

-- ---- what is counted has the form

form_after : (bytes : List ℕ) → list_all is_character bytes ≡ true
    → has_utf8_form_after 0 bytes ≡ true
unfolding has_utf8_form_after
form_after [] h = refl
form_after (b ∷ bytes) h =
    rw (left (is_character b) (list_all is_character bytes) h)
    (form_after bytes (right (is_character b) (list_all is_character bytes) h))

slot_form : (slot : Slot) → list_all is_character (slot_text slot) ≡ true
    → in_slot utf8_has_form slot ≡ true
unfolding has_utf8_form
slot_form (Usable (constant.Utf8 bytes)) h = form_after bytes h
slot_form (Usable (constant.Integer bits)) h = refl
slot_form (Usable (constant.Float bits)) h = refl
slot_form (Usable (constant.Long bits)) h = refl
slot_form (Usable (constant.Double bits)) h = refl
slot_form (Usable (constant.Class name)) h = refl
slot_form (Usable (constant.String text)) h = refl
slot_form (Usable (constant.Fieldref a b)) h = refl
slot_form (Usable (constant.Methodref a b)) h = refl
slot_form (Usable (constant.InterfaceMethodref a b)) h = refl
slot_form (Usable (constant.NameAndType a b)) h = refl
slot_form (Usable (constant.MethodHandle a b)) h = refl
slot_form (Usable (constant.MethodType descriptor)) h = refl
slot_form (Usable (constant.InvokeDynamic a b)) h = refl
slot_form Unusable h = refl

front_all : (p : ℕ → Bool) (xs ys : List ℕ) → list_all p (xs ++ ys) ≡ true → list_all p xs ≡ true
front_all p [] ys h = refl
front_all p (x ∷ xs) ys h =
    both (p x) (list_all p xs) (left (p x) (list_all p (xs ++ ys)) h)
    (front_all p xs ys (right (p x) (list_all p (xs ++ ys)) h))

back_all : (p : ℕ → Bool) (xs ys : List ℕ) → list_all p (xs ++ ys) ≡ true → list_all p ys ≡ true
back_all p [] ys h = h
back_all p (x ∷ xs) ys h = back_all p xs ys (right (p x) (list_all p (xs ++ ys)) h)

all_forms : (slots : List Slot) → list_all is_character (texts slots) ≡ true
    → list_all (in_slot utf8_has_form) slots ≡ true
all_forms [] h = refl
all_forms (s ∷ slots) h =
    both (in_slot utf8_has_form s) (list_all (in_slot utf8_has_form) slots)
    (slot_form s (front_all is_character (slot_text s) (texts slots) h))
    (all_forms slots (back_all is_character (slot_text s) (texts slots) h))

pub counted_forms : (c : ClassFile) (i bytes found : ℕ) → length c.slots ≤ i
    → bytes ≡ length (texts (take i c.slots)) → found ≡ count_characters (texts c.slots)
    → found ≡ bytes → list_all (in_slot utf8_has_form) c.slots ≡ true
counted_forms c i bytes found le size count same =
    let whole : length (texts (take i c.slots)) ≡ length (texts c.slots) =
    ap (λ slots. length (texts slots)) (take_all i c.slots le) in
    all_forms c.slots (all_counted (texts c.slots) (sym count ∙ (same ∙ (size ∙ whole))))

-- ---- the form of one Utf8

pub form_of : (o : Option ClassConstant)
    → has_utf8_form (option_map_or utf8_in o []) ≡ option_map_or utf8_has_form o true
unfolding has_utf8_form has_utf8_form_after
form_of None = refl
form_of (Some (constant.Utf8 bytes)) = refl
form_of (Some (constant.Integer bits)) = refl
form_of (Some (constant.Float bits)) = refl
form_of (Some (constant.Long bits)) = refl
form_of (Some (constant.Double bits)) = refl
form_of (Some (constant.Class name)) = refl
form_of (Some (constant.String text)) = refl
form_of (Some (constant.Fieldref a b)) = refl
form_of (Some (constant.Methodref a b)) = refl
form_of (Some (constant.InterfaceMethodref a b)) = refl
form_of (Some (constant.NameAndType a b)) = refl
form_of (Some (constant.MethodHandle a b)) = refl
form_of (Some (constant.MethodType descriptor)) = refl
form_of (Some (constant.InvokeDynamic a b)) = refl
