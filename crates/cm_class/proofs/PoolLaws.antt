-- The readers of tags, constants and the pool.
-- For `each_input_has_one_answer`, `no_spelling_begins_another`, `one_class_for_one_spelling` and
-- others.
use Rattle.std.proofs.Common.{◌≡◌, ℕ, zero, suc, ◌+◌, ◌-◌, ◌<◌, Bool, true, false, cond, eqb, List}
use Rattle.std.proofs.Common.{[], ◌∷◌, ◌++◌, length, Option, Some, None, Ok, Err, refl, sym, ap}
use Rattle.std.proofs.Common.{subst, ◌∙◌, arith}
use Rattle.std.specs.Prelude.{◌&&◌, nat_lt, IfSome}
use Rattle.std.specs.List.{flat_map}
use Rattle.std.proofs.lemmas.Bool.{eqb-true, ltb-false, le-ltb}
use Rattle.std.proofs.lemmas.List.{nil_from_length}
use Rattle.cm_class.specs.declared.stop.Stop.TheVariants.{Bad}
use Rattle.cm_class.specs.declared.kind.Kind.{Kind}
use Rattle.cm_class.specs.declared.kind.Kind.TheVariants as kinds
use Rattle.cm_class.specs.declared.constant.Constant.{Constant}
use Rattle.cm_class.specs.declared.constant.Constant.TheVariants as constant
use Rattle.cm_class.specs.declared.constant.Slot.{Slot}
use Rattle.cm_class.specs.declared.constant.Slot.TheVariants.{Usable, Unusable}
use Rattle.cm_class.specs.Spelling.{u1, u2, u4, u8, IsU1, IsU2, IsU4, IsU8, AreBytes, tag, info}
use Rattle.cm_class.specs.Spelling.{constant_bytes, slot_bytes, is_wide, ConstantFits, SlotsFit}
use Rattle.cm_class.specs.Spelling.{ClassConstant, heading}
use Rattle.cm_class.specs.Names.{kind_of}
use Rattle.cm_class.specs.Reading.{◌>>=◌, both_at, made_at, number_at, byte_at, sized_at}
use Rattle.cm_class.specs.Reading.{expected_at, count_at, tag_of, tag_number, takes_two}
use Rattle.cm_class.specs.Reading.{tag_found, tag_at}
use Rattle.cm_class.specs.Reading.{one_at, two_at, utf8_at, info_at, constant_at, slots_at, pool_at}
use Rattle.cm_class.proofs.Readers.{Read, Reads, Says, reads_then, reads_done, reads_made}
use Rattle.cm_class.proofs.Readers.{reads_both, reads_as}
use Rattle.cm_class.proofs.Fields.{u1_reads, u2_reads, u4_reads, u8_reads, text_reads}
use Rattle.cm_class.proofs.Lists.{expected_reads, count_reads, rest_of}

-- ---- tags

number_again : (t : Kind) → tag_of (tag_number t) ≡ Some t
number_again kinds.Utf8 = refl
number_again kinds.Integer = refl
number_again kinds.Float = refl
number_again kinds.Long = refl
number_again kinds.Double = refl
number_again kinds.Class = refl
number_again kinds.String = refl
number_again kinds.Fieldref = refl
number_again kinds.Methodref = refl
number_again kinds.InterfaceMethodref = refl
number_again kinds.NameAndType = refl
number_again kinds.MethodHandle = refl
number_again kinds.MethodType = refl
number_again kinds.InvokeDynamic = refl

-- one test of `tag_of`
tested : (n : ℕ) (t : Kind) (others : Option Kind) → IfSome others (λ u. tag_number u ≡ n)
    → IfSome (cond (eqb n (tag_number t)) (Some t) others) (λ u. tag_number u ≡ n)
tested n t others h = by_test (eqb n (tag_number t)) refl
  where
    by_test : (b : Bool) → eqb n (tag_number t) ≡ b
        → IfSome (cond b (Some t) others) (λ u. tag_number u ≡ n)
    by_test true e = sym (eqb-true n (tag_number t) e)
    by_test false e = h

-- a tag determines the kind that has it
pub number_is : (n : ℕ) → IfSome (tag_of n) (λ t. tag_number t ≡ n)
number_is n =
    tested n kinds.Utf8 _
    (tested n kinds.Integer _
    (tested n kinds.Float _
    (tested n kinds.Long _
    (tested n kinds.Double _
    (tested n kinds.Class _
    (tested n kinds.String _
    (tested n kinds.Fieldref _
    (tested n kinds.Methodref _
    (tested n kinds.InterfaceMethodref _
    (tested n kinds.NameAndType _
    (tested n kinds.MethodHandle _
    (tested n kinds.MethodType _ (tested n kinds.InvokeDynamic None tt)))))))))))))

-- there is room for a constant of this kind
abbrev pub TagFits : ℕ → Kind → Type 0
TagFits left t = (takes_two t && nat_lt left 2) ≡ false

-- kinds with the same tag are the same
one_tag : (t u : Kind) → tag_number t ≡ tag_number u → t ≡ u
one_tag t u e =
    let same : Some t ≡ Some u = sym (number_again t) ∙ ap tag_of e ∙ number_again u in cc

says_found : (left b : ℕ) (bytes : List ℕ) (found : Option Kind) → tag_of b ≡ found
    → IfSome found (λ t. tag_number t ≡ b)
    → Says (λ t. u1 (tag_number t)) (TagFits left) (b ∷ bytes) (tag_found left found bytes)
says_found left b bytes None e h = record {
  front = [];
  at = b;
  rest = bytes;
  parts = refl;
  left_is = refl;
  value = kinds.Integer;
  fits = refl;
  more = 3 ∷ [];
  begins = refl;
  stuck = λ t fits x y same.
      let heads : tag_number t ≡ b = cc in
      let both : Some t ≡ None = sym (number_again t) ∙ ap tag_of heads ∙ e in
      absurd cc;
}
says_found left b bytes (Some t) e h = by_test (takes_two t && nat_lt left 2) refl
  where
    by_test : (w : Bool) → (takes_two t && nat_lt left 2) ≡ w
        → Says (λ u. u1 (tag_number u)) (TagFits left) (b ∷ bytes)
        (cond {A = Read Kind} w (Err (Bad (length bytes + 1))) (Ok (t, bytes)))
    by_test true g = record {
      front = [];
      at = b;
      rest = bytes;
      parts = refl;
      left_is = refl;
      value = kinds.Integer;
      fits = refl;
      more = 3 ∷ [];
      begins = refl;
      stuck = λ u fits x y same.
          let heads : tag_number u ≡ b = cc in
          let one : t ≡ u = one_tag t u (h ∙ sym heads) in
          let both : true ≡ false =
          sym g ∙ ap (λ (v : Kind). takes_two v && nat_lt left 2) one ∙ fits in
          absurd cc;
    }
    by_test false g = (g, ap (λ (n : ℕ). n ∷ bytes) (sym h))

tag_says : (left : ℕ) (bytes : List ℕ) → AreBytes bytes
    → Says (λ t. u1 (tag_number t)) (TagFits left) bytes (tag_at left bytes)
unfolding tag_at
tag_says left [] are =
    record { value = kinds.Integer; fits = refl; next = 3; more = []; parts = refl }
tag_says left (b ∷ bytes) are = says_found left b bytes (tag_of b) refl (number_is b)

tag_reads : (left : ℕ) → Reads (tag_at left) (λ t. u1 (tag_number t)) (TagFits left)
unfolding tag_at
tag_reads left = record {
  says = tag_says left;
  again = λ t fits rest. rw (number_again t, fits) refl;
  some = kinds.Integer;
  some_fits = refl;
}

-- ---- constants

tag-kind : {U : Type 0} (c : Constant U) → tag c ≡ tag_number (kind_of c)
tag-kind (constant.Utf8 v) = refl
tag-kind (constant.Integer v) = refl
tag-kind (constant.Float v) = refl
tag-kind (constant.Long v) = refl
tag-kind (constant.Double v) = refl
tag-kind (constant.Class v) = refl
tag-kind (constant.String v) = refl
tag-kind (constant.Fieldref v w) = refl
tag-kind (constant.Methodref v w) = refl
tag-kind (constant.InterfaceMethodref v w) = refl
tag-kind (constant.NameAndType v w) = refl
tag-kind (constant.MethodHandle v w) = refl
tag-kind (constant.MethodType v) = refl
tag-kind (constant.InvokeDynamic v w) = refl

is_wide-kind : {U : Type 0} (c : Constant U) → is_wide c ≡ takes_two (kind_of c)
is_wide-kind (constant.Utf8 v) = refl
is_wide-kind (constant.Integer v) = refl
is_wide-kind (constant.Float v) = refl
is_wide-kind (constant.Long v) = refl
is_wide-kind (constant.Double v) = refl
is_wide-kind (constant.Class v) = refl
is_wide-kind (constant.String v) = refl
is_wide-kind (constant.Fieldref v w) = refl
is_wide-kind (constant.Methodref v w) = refl
is_wide-kind (constant.InterfaceMethodref v w) = refl
is_wide-kind (constant.NameAndType v w) = refl
is_wide-kind (constant.MethodHandle v w) = refl
is_wide-kind (constant.MethodType v) = refl
is_wide-kind (constant.InvokeDynamic v w) = refl

-- the constants of a kind, from their fields
abbrev OfKind : Kind → ClassConstant → Type 0
OfKind kinds.Utf8 c = (v : List ℕ) × (c ≡ constant.Utf8 v)
OfKind kinds.Integer c = (v : ℕ) × (c ≡ constant.Integer v)
OfKind kinds.Float c = (v : ℕ) × (c ≡ constant.Float v)
OfKind kinds.Long c = (v : ℕ) × (c ≡ constant.Long v)
OfKind kinds.Double c = (v : ℕ) × (c ≡ constant.Double v)
OfKind kinds.Class c = (v : ℕ) × (c ≡ constant.Class v)
OfKind kinds.String c = (v : ℕ) × (c ≡ constant.String v)
OfKind kinds.Fieldref c = (v : ℕ) × (w : ℕ) × (c ≡ constant.Fieldref v w)
OfKind kinds.Methodref c = (v : ℕ) × (w : ℕ) × (c ≡ constant.Methodref v w)
OfKind kinds.InterfaceMethodref c = (v : ℕ) × (w : ℕ) × (c ≡ constant.InterfaceMethodref v w)
OfKind kinds.NameAndType c = (v : ℕ) × (w : ℕ) × (c ≡ constant.NameAndType v w)
OfKind kinds.MethodHandle c = (v : ℕ) × (w : ℕ) × (c ≡ constant.MethodHandle v w)
OfKind kinds.MethodType c = (v : ℕ) × (c ≡ constant.MethodType v)
OfKind kinds.InvokeDynamic c = (v : ℕ) × (w : ℕ) × (c ≡ constant.InvokeDynamic v w)

of_kind : (c : ClassConstant) → OfKind (kind_of c) c
of_kind (constant.Utf8 v) = (v, refl)
of_kind (constant.Integer v) = (v, refl)
of_kind (constant.Float v) = (v, refl)
of_kind (constant.Long v) = (v, refl)
of_kind (constant.Double v) = (v, refl)
of_kind (constant.Class v) = (v, refl)
of_kind (constant.String v) = (v, refl)
of_kind (constant.Fieldref v w) = (v, w, refl)
of_kind (constant.Methodref v w) = (v, w, refl)
of_kind (constant.InterfaceMethodref v w) = (v, w, refl)
of_kind (constant.NameAndType v w) = (v, w, refl)
of_kind (constant.MethodHandle v w) = (v, w, refl)
of_kind (constant.MethodType v) = (v, refl)
of_kind (constant.InvokeDynamic v w) = (v, w, refl)

-- a constant of this kind that fits
abbrev FitsAs : Kind → ClassConstant → Type 0
FitsAs t c = ConstantFits c × (kind_of c ≡ t)

-- the fields of a constant of this kind
fields_of : (t : Kind) (c : ClassConstant) → kind_of c ≡ t → OfKind t c
fields_of t c e = subst (λ (u : Kind). OfKind u c) e (of_kind c)

info_reads : (t : Kind) → Reads (info_at t) info (FitsAs t)
unfolding one_at two_at utf8_at
info_reads kinds.Utf8 =
    reads_made (sized_at 2) (λ v. u2 (length v) ++ v) (λ v. IsU2 (length v) × AreBytes v)
    constant.Utf8 info (FitsAs kinds.Utf8) text_reads
    (λ c fits. let f : OfKind kinds.Utf8 c =
    fields_of kinds.Utf8 c fits.1 in (f.0, subst ConstantFits f.1 fits.0, sym f.1))
    (λ v fits. ((fits, refl), refl))
info_reads kinds.Integer =
    reads_made (number_at 4) u4 IsU4 constant.Integer info (FitsAs kinds.Integer) u4_reads
    (λ c fits. let f : OfKind kinds.Integer c =
    fields_of kinds.Integer c fits.1 in (f.0, subst ConstantFits f.1 fits.0, sym f.1))
    (λ v fits. ((fits, refl), refl))
info_reads kinds.Float =
    reads_made (number_at 4) u4 IsU4 constant.Float info (FitsAs kinds.Float) u4_reads
    (λ c fits. let f : OfKind kinds.Float c =
    fields_of kinds.Float c fits.1 in (f.0, subst ConstantFits f.1 fits.0, sym f.1))
    (λ v fits. ((fits, refl), refl))
info_reads kinds.Long =
    reads_made (number_at 8) u8 IsU8 constant.Long info (FitsAs kinds.Long) u8_reads
    (λ c fits. let f : OfKind kinds.Long c =
    fields_of kinds.Long c fits.1 in (f.0, subst ConstantFits f.1 fits.0, sym f.1))
    (λ v fits. ((fits, refl), refl))
info_reads kinds.Double =
    reads_made (number_at 8) u8 IsU8 constant.Double info (FitsAs kinds.Double) u8_reads
    (λ c fits. let f : OfKind kinds.Double c =
    fields_of kinds.Double c fits.1 in (f.0, subst ConstantFits f.1 fits.0, sym f.1))
    (λ v fits. ((fits, refl), refl))
info_reads kinds.Class =
    reads_made (number_at 2) u2 IsU2 constant.Class info (FitsAs kinds.Class) u2_reads
    (λ c fits. let f : OfKind kinds.Class c =
    fields_of kinds.Class c fits.1 in (f.0, subst ConstantFits f.1 fits.0, sym f.1))
    (λ v fits. ((fits, refl), refl))
info_reads kinds.String =
    reads_made (number_at 2) u2 IsU2 constant.String info (FitsAs kinds.String) u2_reads
    (λ c fits. let f : OfKind kinds.String c =
    fields_of kinds.String c fits.1 in (f.0, subst ConstantFits f.1 fits.0, sym f.1))
    (λ v fits. ((fits, refl), refl))
info_reads kinds.Fieldref =
    reads_made (both_at (number_at 2) (number_at 2)) (λ x. u2 x.0 ++ u2 x.1)
    (λ x. IsU2 x.0 × IsU2 x.1) (λ x. constant.Fieldref x.0 x.1) info (FitsAs kinds.Fieldref)
    (reads_both (number_at 2) u2 IsU2 (number_at 2) u2 IsU2 u2_reads u2_reads)
    (λ c fits. let f : OfKind kinds.Fieldref c =
    fields_of kinds.Fieldref c fits.1 in ((f.0, f.1), subst ConstantFits f.2 fits.0, sym f.2))
    (λ v fits. ((fits, refl), refl))
info_reads kinds.Methodref =
    reads_made (both_at (number_at 2) (number_at 2)) (λ x. u2 x.0 ++ u2 x.1)
    (λ x. IsU2 x.0 × IsU2 x.1) (λ x. constant.Methodref x.0 x.1) info (FitsAs kinds.Methodref)
    (reads_both (number_at 2) u2 IsU2 (number_at 2) u2 IsU2 u2_reads u2_reads)
    (λ c fits. let f : OfKind kinds.Methodref c =
    fields_of kinds.Methodref c fits.1 in ((f.0, f.1), subst ConstantFits f.2 fits.0, sym f.2))
    (λ v fits. ((fits, refl), refl))
info_reads kinds.InterfaceMethodref =
    reads_made (both_at (number_at 2) (number_at 2)) (λ x. u2 x.0 ++ u2 x.1)
    (λ x. IsU2 x.0 × IsU2 x.1) (λ x. constant.InterfaceMethodref x.0 x.1) info
    (FitsAs kinds.InterfaceMethodref)
    (reads_both (number_at 2) u2 IsU2 (number_at 2) u2 IsU2 u2_reads u2_reads)
    (λ c fits. let f : OfKind kinds.InterfaceMethodref c =
    fields_of kinds.InterfaceMethodref c fits.1 in
    ((f.0, f.1), subst ConstantFits f.2 fits.0, sym f.2)) (λ v fits. ((fits, refl), refl))
info_reads kinds.NameAndType =
    reads_made (both_at (number_at 2) (number_at 2)) (λ x. u2 x.0 ++ u2 x.1)
    (λ x. IsU2 x.0 × IsU2 x.1) (λ x. constant.NameAndType x.0 x.1) info
    (FitsAs kinds.NameAndType)
    (reads_both (number_at 2) u2 IsU2 (number_at 2) u2 IsU2 u2_reads u2_reads)
    (λ c fits. let f : OfKind kinds.NameAndType c =
    fields_of kinds.NameAndType c fits.1 in
    ((f.0, f.1), subst ConstantFits f.2 fits.0, sym f.2)) (λ v fits. ((fits, refl), refl))
info_reads kinds.MethodHandle =
    reads_made (both_at byte_at (number_at 2)) (λ x. u1 x.0 ++ u2 x.1) (λ x. IsU1 x.0 × IsU2 x.1)
    (λ x. constant.MethodHandle x.0 x.1) info (FitsAs kinds.MethodHandle)
    (reads_both byte_at u1 IsU1 (number_at 2) u2 IsU2 u1_reads u2_reads)
    (λ c fits. let f : OfKind kinds.MethodHandle c =
    fields_of kinds.MethodHandle c fits.1 in
    ((f.0, f.1), subst ConstantFits f.2 fits.0, sym f.2)) (λ v fits. ((fits, refl), refl))
info_reads kinds.MethodType =
    reads_made (number_at 2) u2 IsU2 constant.MethodType info (FitsAs kinds.MethodType) u2_reads
    (λ c fits. let f : OfKind kinds.MethodType c =
    fields_of kinds.MethodType c fits.1 in (f.0, subst ConstantFits f.1 fits.0, sym f.1))
    (λ v fits. ((fits, refl), refl))
info_reads kinds.InvokeDynamic =
    reads_made (both_at (number_at 2) (number_at 2)) (λ x. u2 x.0 ++ u2 x.1)
    (λ x. IsU2 x.0 × IsU2 x.1) (λ x. constant.InvokeDynamic x.0 x.1) info
    (FitsAs kinds.InvokeDynamic)
    (reads_both (number_at 2) u2 IsU2 (number_at 2) u2 IsU2 u2_reads u2_reads)
    (λ c fits. let f : OfKind kinds.InvokeDynamic c =
    fields_of kinds.InvokeDynamic c fits.1 in
    ((f.0, f.1), subst ConstantFits f.2 fits.0, sym f.2)) (λ v fits. ((fits, refl), refl))

-- there is room for the constant
abbrev pub HasRoom : ℕ → ClassConstant → Type 0
HasRoom left c = (is_wide c && nat_lt left 2) ≡ false

pub constant_reads : (left : ℕ)
    → Reads (constant_at left) constant_bytes (λ c. ConstantFits c × HasRoom left c)
unfolding constant_at
constant_reads left =
    reads_then (tag_at left) (λ t. u1 (tag_number t)) (TagFits left) info_at (λ t c. info c) FitsAs
    constant_bytes (λ c. ConstantFits c × HasRoom left c)
    (tag_reads left) (λ t fits. info_reads t)
    (λ c fits. record {
      first =
          kind_of c;
      first_fits =
          ap (λ (b : Bool). b && nat_lt left 2) (sym (is_wide-kind c)) ∙ fits.1;
      rest_fits =
          (fits.0, refl);
      spelled = ap (λ (n : ℕ). n ∷ info c) (tag-kind c);
    })
    (λ t c room fits.
    let wide : is_wide c ≡ takes_two t = is_wide-kind c ∙ ap takes_two fits.1 in (
      (fits.0, ap (λ (b : Bool). b && nat_lt left 2) wide ∙ room),
      ap (λ (n : ℕ). n ∷ info c) (tag-kind c ∙ ap tag_number fits.1),
    ))

-- ---- slots

-- this many slots that fit
abbrev SlotsAre : Bool → ℕ → List Slot → Type 0
SlotsAre second left slots = SlotsFit second slots × (length slots ≡ left)

no_slots : (slots : List Slot) → SlotsAre false 0 slots → [] ≡ slots
no_slots slots fits = sym (nil_from_length slots fits.1)

-- a constant and the slots after it
abbrev ConstantThen : ℕ → ClassConstant → List Slot → Type 0
ConstantThen left c slots =
    (rest : List Slot) × (Usable c ∷ rest ≡ slots) × SlotsAre (is_wide c) left rest

usable_parts : (left : ℕ) (slots : List Slot) → SlotsAre false (suc left) slots
    → (c : ClassConstant) × (rest : List Slot) × (Usable c ∷ rest ≡ slots) × ConstantFits c
    × SlotsAre (is_wide c) left rest
usable_parts left [] fits = absurd (omega (arith, fits.1))
usable_parts left (Unusable ∷ rest) fits = absurd fits.0
usable_parts left (Usable c ∷ rest) fits =
    (c, rest, refl, fits.0.0, (fits.0.1, omega (arith, fits.1)))

second_parts : (left : ℕ) (slots : List Slot) → SlotsAre true (suc left) slots
    → (rest : List Slot) × SlotsAre false left rest × (Unusable ∷ rest ≡ slots)
second_parts left [] fits = absurd fits.0
second_parts left (Unusable ∷ rest) fits = (rest, (fits.0, omega (arith, fits.1)), refl)
second_parts left (Usable c ∷ rest) fits = absurd fits.0

-- a wide constant has a second slot
room_left : (left : ℕ) (wide : Bool) → (wide && nat_lt (suc left) 2) ≡ false → wide ≡ true
    → 0 < left
room_left left true room e = omega (arith, ltb-false (suc left) 2 room)
room_left left false room e = absurd cc

-- a second slot is there, so the constant had room
had_room : (left : ℕ) (wide : Bool) (slots : List Slot) → SlotsFit wide slots → length slots ≡ left
    → (wide && nat_lt (suc left) 2) ≡ false
had_room left true [] fits e = absurd fits
had_room left true (slot ∷ slots) fits e = le-ltb (suc left) 2 (omega arith)
had_room left false slots fits e = refl

slots_reads : (left : ℕ) (second : Bool) → (second ≡ true → 0 < left)
    → Reads (slots_at second left) (flat_map slot_bytes) (SlotsAre second left)
unfolding slots_at
slots_reads zero true h = absurd (omega (arith, h refl))
slots_reads zero false h =
    reads_as (λ bytes. Ok ([], bytes)) (λ _. []) (λ (slots : List Slot). [] ≡ slots)
    (flat_map slot_bytes) (SlotsAre false 0)
    (reads_done [] (λ slots. [] ≡ slots) refl (λ v e. e)) no_slots
    (λ slots e. subst (λ (v : List Slot). SlotsAre false 0 v × (flat_map slot_bytes v ≡ [])) e
    ((tt, refl), refl))
slots_reads (suc left) true h =
    reads_made (slots_at false left) (flat_map slot_bytes) (SlotsAre false left)
    (λ rest. Unusable ∷ rest) (flat_map slot_bytes) (SlotsAre true (suc left))
    (slots_reads left false (λ e. absurd cc))
    (second_parts left) (λ rest fits. ((fits.0, ap suc fits.1), refl))
slots_reads (suc left) false h =
    reads_then (constant_at (suc left)) constant_bytes (λ c. ConstantFits c × HasRoom (suc left) c)
    (λ c. made_at (λ rest. Usable c ∷ rest) (slots_at (is_wide c) left))
    (λ c slots. flat_map slot_bytes (rest_of slots)) (ConstantThen left) (flat_map slot_bytes)
    (SlotsAre false (suc left)) (constant_reads (suc left))
    (λ c fits. reads_made (slots_at (is_wide c) left) (flat_map slot_bytes)
    (SlotsAre (is_wide c) left) (λ rest. Usable c ∷ rest)
    (λ slots. flat_map slot_bytes (rest_of slots)) (ConstantThen left c)
    (slots_reads left (is_wide c) (room_left left (is_wide c) fits.1))
    (λ slots fits. (fits.0, fits.2, fits.1)) (λ rest fits. ((rest, refl, fits), refl)))
    (λ slots fits.
    let p = usable_parts left slots fits in
    record {
      first = p.0;
      first_fits = (p.3, had_room left (is_wide p.0) p.1 p.4.0 p.4.1);
      rest_fits = (p.1, p.2, p.4);
      spelled = subst
          (λ (v : List Slot). flat_map slot_bytes v ≡ constant_bytes p.0
          ++ flat_map slot_bytes (rest_of v)) p.2 refl;
    })
    (λ c slots fits rest.
    subst (λ (v : List Slot). SlotsAre false (suc left) v
    × (flat_map slot_bytes v ≡ constant_bytes c ++ flat_map slot_bytes (rest_of v))) rest.1
    (((fits.0, rest.2.0), ap suc rest.2.1), refl))

-- ---- the pool

abbrev pub pool_bytes : List Slot → List ℕ
pool_bytes slots = heading ++ u2 (length slots + 1) ++ flat_map slot_bytes slots

abbrev pub PoolFits : List Slot → Type 0
PoolFits slots = IsU2 (length slots + 1) × SlotsFit false slots

counted_slots_reads : Reads
    (λ bytes. count_at bytes >>= λ count. slots_at false (count.0 - 1) count.1)
    (λ slots. u2 (length slots + 1) ++ flat_map slot_bytes slots) PoolFits
counted_slots_reads =
    reads_then count_at u2 (λ n. (0 < n) × IsU2 n) (λ n. slots_at false (n - 1))
    (λ n. flat_map slot_bytes) (λ n. SlotsAre false (n - 1))
    (λ slots. u2 (length slots + 1) ++ flat_map slot_bytes slots) PoolFits
    count_reads (λ n fits. slots_reads (n - 1) false (λ e. absurd cc))
    (λ slots fits.
    record {
      first =
          length slots + 1;
      first_fits =
          (omega arith, fits.0);
      rest_fits = (fits.1, omega arith);
      spelled = refl;
    })
    (λ n slots fits rest. let e : length slots + 1 ≡ n =
    omega (arith, rest.1, fits.0) in
    ((subst IsU2 (sym e) fits.1, rest.0), ap (λ (k : ℕ). u2 k ++ flat_map slot_bytes slots) e))

pub pool_reads : Reads pool_at pool_bytes PoolFits
unfolding pool_at
pool_reads =
    reads_then (expected_at heading) (λ _. heading) (λ _. Unit {0})
    (λ _ bytes. count_at bytes >>= λ count. slots_at false (count.0 - 1) count.1)
    (λ _ slots. u2 (length slots + 1) ++ flat_map slot_bytes slots) (λ _. PoolFits)
    pool_bytes PoolFits (expected_reads heading) (λ _ _. counted_slots_reads)
    (λ slots fits. record { first = tt; first_fits = tt; rest_fits = fits; spelled = refl })
    (λ a slots fits rest. (rest, refl))
