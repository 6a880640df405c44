-- The places of a class's Utf8s and names, in the words of its record.
-- For `utf8_place`, `name_place`, `is_utf8`.
use Rattle.std.proofs.Common.{◌≡◌, ◌-◌, ◌*◌, ℕ, zero, suc, List, [], ◌∷◌, ◌++◌}
use Rattle.std.proofs.Common.{length, take, drop, slice_get, Option, Some, None, false, refl, sym}
use Rattle.std.proofs.Common.{◌∙◌, ap, subst, arith, append_assoc, drop-drop}
use Rattle.std.specs.Prelude.{option_map, option_and_then, is_some, unwrap_or, ◌&&◌, bytes_eq}
use Rattle.std.specs.Option.{option_map_or}
use Rattle.std.proofs.lemmas.List.{drop_at}
use Rattle.cm_class.specs.declared.constant.Constant.TheVariants as constant
use Rattle.cm_class.specs.declared.constant.Slot.{Slot}
use Rattle.cm_class.specs.declared.constant.Slot.TheVariants.{Usable, Unusable}
use Rattle.cm_class.specs.declared.class_file.ClassFile.{ClassFile}
use Rattle.cm_class.specs.Spelling.{ClassConstant, HasSpelling}
use Rattle.cm_class.specs.Names.{constant_in, constant_named, utf8, utf8_in, class_name}
use Rattle.cm_class.specs.Names.{class_name_index, is_kind, names_utf8}
use Rattle.cm_class.specs.declared.kind.Kind.TheVariants as kinds
use Rattle.cm_record_layout.specs.Packing.{packed}
use Rattle.cm_record_layout.specs.Layout.{lay, slot_run, utf8_runs, runs_at, IsRecordOf}
use Rattle.cm_record_layout.specs.Tails.{runs_tail}
use Rattle.cm_record_layout.proofs.{runs_there}
use Rattle.cm_record.specs.Constants.{kept_constant, constant_at_index, utf8_at}
use Rattle.cm_record.specs.Runs.{class_link}
use Rattle.cm_record_parts.specs.declared.places.Place.{Place}
use Rattle.cm_record_parts.specs.Places.{LieAt, place_of_utf8, utf8_place, name_place}
use Rattle.cm_record_parts.specs.Places.{text_place, no_bytes}
use Rattle.cm_record_parts.proofs.PoolConstants.{constant_read, words_at, words_within, fits_at}
use Rattle.cm_record_parts.proofs.RunBytes.{lie_there, none_lie}

-- what a Utf8's run is, among those of all slots
run_split : (slots : List Slot) (i : ℕ) (bytes : List ℕ)
    → slice_get slots i ≡ Some (Usable (constant.Utf8 bytes)) → (rest : List ℕ)
    × (utf8_runs slots ≡ utf8_runs (take i slots) ++ (packed bytes ++ rest))
run_split [] i bytes e = absurd (cc)
run_split (s ∷ slots) zero bytes e = let same : s ≡ Usable (constant.Utf8 bytes) =
    cc in (utf8_runs slots, ap (λ t. slot_run t ++ utf8_runs slots) same)
run_split (s ∷ slots) (suc i) bytes e =
    let more = run_split slots i bytes e in (
      more.0,
      ap (λ w. slot_run s ++ w) more.1
          ∙ sym (append_assoc (slot_run s) (utf8_runs (take i slots)) (packed bytes ++ more.0)),
    )

named_usable : (o : Option Slot) (d : ClassConstant) → option_and_then constant_in o ≡ Some d
    → o ≡ Some (Usable d)
named_usable None d e = absurd (cc)
named_usable (Some Unusable) d e = absurd (cc)
named_usable (Some (Usable x)) d e = let same : x ≡ d = cc in ap (λ y. Some (Usable y)) same

by_constant : (words : List ℕ) (at : ℕ) (o : Option ClassConstant) → ((bytes : List ℕ)
    → o ≡ Some (constant.Utf8 bytes)
    → LieAt words (record { at = 8 * at; len = length bytes }) bytes)
    → LieAt words (place_of_utf8 (option_map (kept_constant at) o)) (option_map_or utf8_in o [])
by_constant words at None h = none_lie words
by_constant words at (Some (constant.Utf8 bytes)) h = h bytes refl
by_constant words at (Some (constant.Integer bits)) h = none_lie words
by_constant words at (Some (constant.Float bits)) h = none_lie words
by_constant words at (Some (constant.Long bits)) h = none_lie words
by_constant words at (Some (constant.Double bits)) h = none_lie words
by_constant words at (Some (constant.Class name)) h = none_lie words
by_constant words at (Some (constant.String utf8)) h = none_lie words
by_constant words at (Some (constant.Fieldref a b)) h = none_lie words
by_constant words at (Some (constant.Methodref a b)) h = none_lie words
by_constant words at (Some (constant.InterfaceMethodref a b)) h = none_lie words
by_constant words at (Some (constant.NameAndType a b)) h = none_lie words
by_constant words at (Some (constant.MethodHandle a b)) h = none_lie words
by_constant words at (Some (constant.MethodType descriptor)) h = none_lie words
by_constant words at (Some (constant.InvokeDynamic a b)) h = none_lie words

link_of : (at : ℕ) (o : Option ClassConstant)
    → class_link (option_map (kept_constant at) o) ≡ option_map_or class_name_index o 0
link_of at None = refl
link_of at (Some (constant.Utf8 bytes)) = refl
link_of at (Some (constant.Integer bits)) = refl
link_of at (Some (constant.Float bits)) = refl
link_of at (Some (constant.Long bits)) = refl
link_of at (Some (constant.Double bits)) = refl
link_of at (Some (constant.Class name)) = refl
link_of at (Some (constant.String utf8)) = refl
link_of at (Some (constant.Fieldref a b)) = refl
link_of at (Some (constant.Methodref a b)) = refl
link_of at (Some (constant.InterfaceMethodref a b)) = refl
link_of at (Some (constant.NameAndType a b)) = refl
link_of at (Some (constant.MethodHandle a b)) = refl
link_of at (Some (constant.MethodType descriptor)) = refl
link_of at (Some (constant.InvokeDynamic a b)) = refl

-- the run of the Utf8 at a slot
slot_run_there : (c : ClassFile) (spelled : HasSpelling c) (i : ℕ) (bytes : List ℕ)
    → slice_get c.slots i ≡ Some (Usable (constant.Utf8 bytes)) → (rest : List ℕ)
    × (drop (words_at c spelled i) (lay c) ≡ packed bytes ++ rest)
slot_run_there c spelled i bytes e =
    let before = utf8_runs (take i c.slots) in
    let found = run_split c.slots i bytes e in
    let tail = drop (length (utf8_runs c.slots)) (runs_tail c) in
    let all : runs_tail c ≡ utf8_runs c.slots ++ tail = ap
    (λ w. utf8_runs c.slots ++ w)
    (sym (drop_at (utf8_runs c.slots) _ (length (utf8_runs c.slots)) refl)) in
    let parts : runs_tail c ≡ before ++ (packed bytes ++ (found.0 ++ tail)) =
    all ∙ (ap (λ w. w ++ tail) found.1
    ∙ (append_assoc before (packed bytes ++ found.0) tail
    ∙ ap (λ w. before ++ w) (append_assoc (packed bytes) found.0 tail))) in (
      found.0 ++ tail,
      sym (drop-drop (length before) (runs_at c) (lay c))
          ∙ (ap (drop (length before)) (runs_there c spelled ∙ parts)
          ∙ drop_at before (packed bytes ++ (found.0 ++ tail)) (length before) refl),
    )

module _ (c : ClassFile) (words : List ℕ) (is : IsRecordOf c words) where
  utf8_found : (index : ℕ) (bytes : List ℕ) → constant_named c index ≡ Some (constant.Utf8 bytes)
      → LieAt words (record { at = 8 * utf8_at c index; len = length bytes }) bytes
  utf8_found zero bytes e = absurd (cc)
  utf8_found (suc i) bytes e =
      let slot = named_usable (slice_get c.slots i) (constant.Utf8 bytes) e in
      let found = slot_run_there c is.spelled i bytes slot in
      let same : suc i - 1 ≡ i = omega arith in
      let place : 8 * utf8_at c (suc i) ≡ 8 * words_at c is.spelled i = ap
      (λ n. 8 * words_at c is.spelled n) same in
      let fits = fits_at false c.slots i (constant.Utf8 bytes) is.spelled.slots slot in
      lie_there words bytes found.0 (words_at c is.spelled i)
      (record { at = 8 * utf8_at c (suc i); len = length bytes }) fits.1
      (omega (arith, words_within c is.spelled i, ap length is.laid))
      (ap (drop (words_at c is.spelled i)) is.laid ∙ found.1) place refl

  -- the bytes of the Utf8 at an index
  pub utf8_lies : (index : ℕ) → LieAt words (utf8_place words index) (utf8 c index)
  utf8_lies index =
      subst (λ (o : _). LieAt words (place_of_utf8 o) (utf8 c index))
      (sym (constant_read c words is index))
      (by_constant words (utf8_at c index) (constant_named c index) (utf8_found index))

  -- those of the name that the Class at an index leads to
  pub name_lies : (index : ℕ) → LieAt words (name_place words index) (class_name c index)
  name_lies index =
      let link : class_link (constant_at_index words index)
      ≡ option_map_or class_name_index (constant_named c index) 0 =
      ap class_link (constant_read c words is index)
      ∙ link_of (utf8_at c index) (constant_named c index) in
      subst (λ (n : ℕ). LieAt words (utf8_place words n) (class_name c index)) (sym link)
      (utf8_lies (option_map_or class_name_index (constant_named c index) 0))

-- ---- which constants are Utf8s

kind_kept : (at : ℕ) (o : Option ClassConstant)
    → option_map_or (is_kind kinds.Utf8) o false
    ≡ is_some (text_place (option_map (kept_constant at) o))
kind_kept at None = refl
kind_kept at (Some (constant.Utf8 bytes)) = refl
kind_kept at (Some (constant.Integer bits)) = refl
kind_kept at (Some (constant.Float bits)) = refl
kind_kept at (Some (constant.Long bits)) = refl
kind_kept at (Some (constant.Double bits)) = refl
kind_kept at (Some (constant.Class name)) = refl
kind_kept at (Some (constant.String utf8)) = refl
kind_kept at (Some (constant.Fieldref a b)) = refl
kind_kept at (Some (constant.Methodref a b)) = refl
kind_kept at (Some (constant.InterfaceMethodref a b)) = refl
kind_kept at (Some (constant.NameAndType a b)) = refl
kind_kept at (Some (constant.MethodHandle a b)) = refl
kind_kept at (Some (constant.MethodType descriptor)) = refl
kind_kept at (Some (constant.InvokeDynamic a b)) = refl

-- an index names a Utf8 of these bytes, if what is found there is a Utf8 of these
pub named_by : (c : ClassFile) (words : List ℕ) (is : IsRecordOf c words) (index : ℕ)
    (found : Option Place) → found ≡ text_place (constant_at_index words index)
    → (bytes : List ℕ)
    → names_utf8 c index bytes ≡ (is_some found && bytes_eq (utf8 c index) bytes)
named_by c words is index found e bytes = ap
    (λ b. b && bytes_eq (utf8 c index) bytes)
    (kind_kept (utf8_at c index) (constant_named c index)
    ∙ ap is_some (ap text_place (sym (constant_read c words is index)) ∙ sym e))

pub text_lies : (c : ClassFile) (words : List ℕ) (is : IsRecordOf c words) (index : ℕ)
    (place : Place) → text_place (constant_at_index words index) ≡ Some place
    → LieAt words place (utf8 c index)
text_lies c words is index place e =
    subst (λ (p : Place). LieAt words p (utf8 c index)) (ap (λ o. unwrap_or o no_bytes) e)
    (utf8_lies c words is index)
