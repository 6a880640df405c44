-- The runs of a class's Utf8s, found in the words of its record.
-- For `Record::super_name`, `class_name_run`, `cmp_run_to` and others.
use Rattle.std.proofs.Common.{false, ◌≡◌, ◌≤◌, ◌-◌, ◌*◌, ◌/◌, ℕ, zero, suc, List, [], ◌∷◌, ◌++◌}
use Rattle.std.proofs.Common.{length, take, drop, get_or, slice_get, Option, Some, None, refl, sym}
use Rattle.std.proofs.Common.{◌∙◌, ap, subst, arith, length-append, append_assoc, drop-drop}
use Rattle.std.specs.Prelude.{option_map, option_and_then, unwrap_or}
use Rattle.std.specs.Option.{option_map_or}
use Rattle.std.proofs.lemmas.List.{drop_at, take_at}
use Rattle.cm_class.specs.declared.constant.Constant.TheVariants as constant
use Rattle.cm_class.specs.declared.constant.Slot.{Slot}
use Rattle.cm_class.specs.declared.constant.Slot.TheVariants.{Usable, Unusable}
use Rattle.cm_class.specs.declared.class_file.ClassFile.{ClassFile}
use Rattle.cm_class.specs.Spelling.{ClassConstant, AreBytes, HasSpelling}
use Rattle.cm_class.specs.Names.{constant_in, constant_named, utf8, utf8_in, class_name}
use Rattle.cm_class.specs.Names.{class_name_index, class_name_of}
use Rattle.cm_record_layout.specs.Packing.{packed, run_words, second_of, third_of}
use Rattle.cm_record_layout.specs.Layout.{lay, slot_run, utf8_runs, runs_at, limit, IsRecordOf}
use Rattle.cm_record.specs.declared.run.Run.{Run}
use Rattle.cm_record.specs.Constants.{kept_constant, constant_at_index, utf8_at}
use Rattle.cm_record.specs.Runs.{IsRunOf, run_of_utf8, no_bytes, utf8_run, class_link, name_run}
use Rattle.cm_record_reading.specs.Reading.{run_at}
use Rattle.cm_record_reading.proofs.{run_again, some_same}
use Rattle.cm_record_layout.proofs.{runs_there, lay_short, this_there, super_there}
use Rattle.cm_record_layout.proofs.{packed_len}
use Rattle.cm_record_layout.specs.Tails.{runs_tail}
use Rattle.cm_record.proofs.Constants.{constant_is, words_at, words_within, fits_at}

-- what a Utf8's run is, among those of all slots
run_split : (slots : List Slot) (i : ℕ) (bytes : List ℕ)
    → slice_get slots i ≡ Some (Usable (constant.Utf8 bytes)) → (rest : List ℕ)
    × (utf8_runs slots ≡ utf8_runs (take i slots) ++ (packed bytes ++ rest))
run_split [] i bytes e = absurd (cc)
run_split (s ∷ slots) zero bytes e = let same : s ≡ Usable (constant.Utf8 bytes) =
    cc in (utf8_runs slots, ap (λ t. slot_run t ++ utf8_runs slots) same)
run_split (s ∷ slots) (suc i) bytes e =
    let more = run_split slots i bytes e in (
      more.0,
      ap (λ w. slot_run s ++ w) more.1
          ∙ sym (append_assoc (slot_run s) (utf8_runs (take i slots)) (packed bytes ++ more.0)),
    )

named_usable : (o : Option Slot) (d : ClassConstant) → option_and_then constant_in o ≡ Some d
    → o ≡ Some (Usable d)
named_usable None d e = absurd (cc)
named_usable (Some Unusable) d e = absurd (cc)
named_usable (Some (Usable x)) d e = let same : x ≡ d = cc in ap (λ y. Some (Usable y)) same

-- no bytes have a run at every place
empty_run : (words : List ℕ) → IsRunOf words no_bytes []
empty_run words =
    record { fits = tt; count = refl; within = omega arith; rest = words; split = refl }

by_constant : (words : List ℕ) (at : ℕ) (o : Option ClassConstant) → ((bytes : List ℕ)
    → o ≡ Some (constant.Utf8 bytes)
    → IsRunOf words (record { at = 8 * at / 8; len = length bytes }) bytes)
    → IsRunOf words (unwrap_or (run_of_utf8 (option_map (kept_constant at) o)) no_bytes)
    (option_map_or utf8_in o [])
by_constant words at None h = empty_run words
by_constant words at (Some (constant.Utf8 bytes)) h = h bytes refl
by_constant words at (Some (constant.Integer bits)) h = empty_run words
by_constant words at (Some (constant.Float bits)) h = empty_run words
by_constant words at (Some (constant.Long bits)) h = empty_run words
by_constant words at (Some (constant.Double bits)) h = empty_run words
by_constant words at (Some (constant.Class name)) h = empty_run words
by_constant words at (Some (constant.String utf8)) h = empty_run words
by_constant words at (Some (constant.Fieldref a b)) h = empty_run words
by_constant words at (Some (constant.Methodref a b)) h = empty_run words
by_constant words at (Some (constant.InterfaceMethodref a b)) h = empty_run words
by_constant words at (Some (constant.NameAndType a b)) h = empty_run words
by_constant words at (Some (constant.MethodHandle a b)) h = empty_run words
by_constant words at (Some (constant.MethodType descriptor)) h = empty_run words
by_constant words at (Some (constant.InvokeDynamic a b)) h = empty_run words

link_of : (at : ℕ) (o : Option ClassConstant)
    → class_link (option_map (kept_constant at) o) ≡ option_map_or class_name_index o 0
link_of at None = refl
link_of at (Some (constant.Utf8 bytes)) = refl
link_of at (Some (constant.Integer bits)) = refl
link_of at (Some (constant.Float bits)) = refl
link_of at (Some (constant.Long bits)) = refl
link_of at (Some (constant.Double bits)) = refl
link_of at (Some (constant.Class name)) = refl
link_of at (Some (constant.String utf8)) = refl
link_of at (Some (constant.Fieldref a b)) = refl
link_of at (Some (constant.Methodref a b)) = refl
link_of at (Some (constant.InterfaceMethodref a b)) = refl
link_of at (Some (constant.NameAndType a b)) = refl
link_of at (Some (constant.MethodHandle a b)) = refl
link_of at (Some (constant.MethodType descriptor)) = refl
link_of at (Some (constant.InvokeDynamic a b)) = refl

module _ (c : ClassFile) (spelled : HasSpelling c) (short : length (lay c) ≤ limit) where
  -- the run of the Utf8 at a slot
  slot_run_there : (i : ℕ) (bytes : List ℕ)
      → slice_get c.slots i ≡ Some (Usable (constant.Utf8 bytes)) → (rest : List ℕ)
      × (drop (words_at c spelled i) (lay c) ≡ packed bytes ++ rest)
  slot_run_there i bytes e =
      let before = utf8_runs (take i c.slots) in
      let found = run_split c.slots i bytes e in
      let tail = drop (length (utf8_runs c.slots)) (runs_tail c) in
      let all : runs_tail c ≡ utf8_runs c.slots ++ tail = ap
      (λ w. utf8_runs c.slots ++ w)
      (sym (drop_at (utf8_runs c.slots) _ (length (utf8_runs c.slots)) refl)) in
      let parts : runs_tail c ≡ before ++ (packed bytes ++ (found.0 ++ tail)) =
      all ∙ (ap (λ w. w ++ tail) found.1
      ∙ (append_assoc before (packed bytes ++ found.0) tail
      ∙ ap (λ w. before ++ w) (append_assoc (packed bytes) found.0 tail))) in (
        found.0 ++ tail,
        sym (drop-drop (length before) (runs_at c) (lay c))
            ∙ (ap (drop (length before)) (runs_there c spelled ∙ parts)
            ∙ drop_at before (packed bytes ++ (found.0 ++ tail)) (length before) refl),
      )

  utf8_run_found : (index : ℕ) (bytes : List ℕ)
      → constant_named c index ≡ Some (constant.Utf8 bytes)
      → IsRunOf (lay c) (record { at = 8 * utf8_at c index / 8; len = length bytes }) bytes
  utf8_run_found zero bytes e = absurd (cc)
  utf8_run_found (suc i) bytes e =
      let slot = named_usable (slice_get c.slots i) (constant.Utf8 bytes) e in
      let found = slot_run_there i bytes slot in
      let same : suc i - 1 ≡ i = omega arith in
      let place : 8 * utf8_at c (suc i) / 8 ≡ words_at c spelled i = ap
      (λ n. 8 * words_at c spelled n / 8) same ∙ omega arith in
      let fits = fits_at false c.slots i (constant.Utf8 bytes) spelled.slots slot in
      subst (λ (n : ℕ). IsRunOf (lay c) (record { at = n; len = length bytes }) bytes) (sym place)
      (record {
        fits = fits.1;
        count = refl;
        within = words_within c spelled i;
        rest = found.0;
        split = found.1;
      })

  pub utf8_run_is : (index : ℕ) → IsRunOf (lay c) (utf8_run (lay c) index) (utf8 c index)
  utf8_run_is index =
      subst (λ (o : _). IsRunOf (lay c) (unwrap_or (run_of_utf8 o) no_bytes) (utf8 c index))
      (sym (constant_is c spelled short index))
      (by_constant (lay c) (utf8_at c index) (constant_named c index) (utf8_run_found index))

  pub name_run_is : (index : ℕ) → IsRunOf (lay c) (name_run (lay c) index) (class_name c index)
  name_run_is index =
      let link : class_link (constant_at_index (lay c) index)
      ≡ option_map_or class_name_index (constant_named c index) 0 =
      ap class_link (constant_is c spelled short index)
      ∙ link_of (utf8_at c index) (constant_named c index) in
      subst (λ (n : ℕ). IsRunOf (lay c) (utf8_run (lay c) n) (class_name c index)) (sym link)
      (utf8_run_is (option_map_or class_name_index (constant_named c index) 0))

-- ---- what a run determines

-- the bytes are read from the run
pub run_read : (words : List ℕ) (run : Run) (bytes : List ℕ) (is : IsRunOf words run bytes)
    → run_at run.len (drop run.at words) ≡ Some (bytes, is.rest)
run_read words run bytes is = ap
    (λ n. run_at n (drop run.at words)) is.count
    ∙ (ap (run_at (length bytes)) is.split ∙ run_again bytes is.rest is.fits)

-- a run has one list of bytes
pub one_run : (words : List ℕ) (run : Run) (xs ys : List ℕ) → IsRunOf words run xs
    → IsRunOf words run ys → xs ≡ ys
one_run words run xs ys of_xs of_ys =
    let both : Some (xs, of_xs.rest) ≡ Some (ys, of_ys.rest) =
    sym (run_read words run xs of_xs) ∙ run_read words run ys of_ys in
    ap (λ (p : List ℕ × List ℕ). p.0) (some_same (xs, of_xs.rest) (ys, of_ys.rest) both)

-- equally many bytes in the same words are the same
pub packed_same : (xs ys : List ℕ) → AreBytes xs → AreBytes ys → length xs ≡ length ys
    → packed xs ≡ packed ys → xs ≡ ys
packed_same xs ys of_xs of_ys count same =
    let both : Some (xs, []) ≡ Some (ys, []) = sym (run_again xs [] of_xs)
    ∙ (ap (run_at (length xs)) (ap (λ w. w ++ []) same)
    ∙ (ap (λ n. run_at n (packed ys ++ [])) count ∙ run_again ys [] of_ys)) in
    ap (λ (p : List ℕ × List ℕ). p.0) (some_same (xs, []) (ys, []) both)

-- the words of a run
pub run_words_there : (words : List ℕ) (run : Run) (bytes : List ℕ) (is : IsRunOf words run bytes)
    → (run_words run.len ≤ length (drop run.at words))
    × (take (run_words run.len) (drop run.at words) ≡ packed bytes)
run_words_there words run bytes is =
    let size : length (packed bytes) ≡ run_words run.len =
    packed_len bytes ∙ ap run_words (sym is.count) in (
      omega (arith, size, ap length is.split, length-append (packed bytes) is.rest),
      ap (take (run_words run.len)) is.split
          ∙ take_at (packed bytes) is.rest (run_words run.len) size,
    )

-- ---- names in a record

pub name_at : (c : ClassFile) (words : List ℕ) → IsRecordOf c words → (index : ℕ)
    → IsRunOf words (name_run words index) (class_name c index)
name_at c words is index = subst
    (λ (w : List ℕ). IsRunOf w (name_run w index) (class_name c index)) (sym is.laid)
    (name_run_is c is.spelled (lay_short c words is) index)

pub own_name : (c : ClassFile) (words : List ℕ) → IsRecordOf c words
    → IsRunOf words (name_run words (second_of (get_or words 1 0))) (class_name_of c)
own_name c words is =
    let this : second_of (get_or words 1 0) ≡ c.this_class = ap
    (λ w. second_of (get_or w 1 0)) is.laid ∙ this_there c is.spelled in
    subst (λ (n : ℕ). IsRunOf words (name_run words n) (class_name c c.this_class)) (sym this)
    (name_at c words is c.this_class)

pub super_read : (c : ClassFile) (words : List ℕ) → IsRecordOf c words
    → third_of (get_or words 1 0) ≡ c.super_class
super_read c words is = ap (λ w. third_of (get_or w 1 0)) is.laid ∙ super_there c is.spelled
