-- The constants of a pool, one after the other, in the words of a record.
-- For `next_constant`.
use Rattle.std.proofs.Common.{◌≡◌, ◌<◌, ◌≤◌, ◌+◌, ℕ, zero, suc, Bool, true, false, List}
use Rattle.std.proofs.Common.{get_or, slice_get, Option, Some, None, refl, sym, ◌∙◌, ap, arith}
use Rattle.std.proofs.Common.{inl, inr, subst}
use Rattle.std.specs.Prelude.{not, ◌&&◌, ◌==◌, if◌then◌else◌, nat_le, option_map}
use Rattle.std.specs.Prelude.{option_and_then, IsSome}
use Rattle.std.proofs.lemmas.Bool.{ne_eqb, le-leb, lt-leb, cases_lt}
use Rattle.cm_class.specs.declared.constant.Slot.{Slot}
use Rattle.cm_class.specs.declared.constant.Slot.TheVariants.{Usable, Unusable}
use Rattle.cm_class.specs.declared.class_file.ClassFile.{ClassFile}
use Rattle.cm_class.specs.Names.{constant_in}
use Rattle.cm_record_layout.specs.Layout.{IsRecordOf}
use Rattle.cm_record_layout.specs.Packing.{first_of}
use Rattle.cm_record.specs.Constants.{RecordConstant, kept_constant, is_wide_word, is_second_word}
use Rattle.cm_record.specs.Constants.{word_kept, constant_kept, utf8_at}
use Rattle.cm_record_layout.proofs.{word_8}
use Rattle.cm_record_parts.specs.Pool.{step_of, IsStart}
use Rattle.cm_record_parts.proofs.Heads.{count_read}
use Rattle.cm_record_parts.proofs.PartPlaces.{item_there}
use Rattle.cm_record_parts.proofs.PoolConstants.{constant_read, second_is, is_unusable}

not_second : (a b s : Bool) (o : Option RecordConstant)
    → IsSome (if a then None else if b then None else if s then None else o) → s ≡ false
not_second true b s o some = absurd (cc)
not_second false true s o some = absurd (cc)
not_second false false true o some = absurd (cc)
not_second false false false o some = refl

none_second : (a b s : Bool) (o : Option RecordConstant) → s ≡ true
    → (if a then None else if b then None else if s then None else o) ≡ None
none_second true b s o e = refl
none_second false true s o e = refl
none_second false false true o e = refl
none_second false false false o e = absurd (cc)

none_past : (a b s : Bool) (o : Option RecordConstant) → b ≡ true
    → (if a then None else if b then None else if s then None else o) ≡ None
none_past true b s o e = refl
none_past false true s o e = refl
none_past false false s o e = absurd (cc)

pub not_none : (o : Option RecordConstant) → o ≡ None → IsSome o → ⊥
not_none None e some = absurd (cc)
not_none (Some x) e some = absurd (cc)

and_false : (b : Bool) → (b && false) ≡ false
and_false true = refl
and_false false = refl

module _ (c : ClassFile) (words : List ℕ) (is : IsRecordOf c words) where
  -- the constant at an index begins there
  begins : (i : ℕ) → IsSome (constant_kept c i) → is_second_word words (8 + i) ≡ false
  begins i some =
      not_second (i == 0) (nat_le (first_of (get_or words 2 0)) i) (is_second_word words (8 + i))
      (word_kept (get_or words (8 + i) 0) (get_or words (9 + i) 0))
      (subst IsSome (sym (constant_read c words is i)) some)

  abbrev pub wide_at : ℕ → Bool
  wide_at i = not (i == 0) && is_wide_word (get_or words (8 + i) 0)

  wide_word : (i : ℕ) (b : Bool) → wide_at (suc i) ≡ b
      → is_wide_word (get_or words (8 + suc i) 0) ≡ b
  wide_word i b e =
      let some : (suc i == 0) ≡ false = ne_eqb (suc i) 0 (λ n. omega arith) in
      sym (ap (λ t. not t && is_wide_word (get_or words (8 + suc i) 0)) some) ∙ e

  after_narrow : (after : ℕ) → IsStart c after → wide_at after ≡ false
      → is_second_word words (8 + (after + 1)) ≡ false
  after_narrow zero start e = ap
      (λ w. is_wide_word (get_or w 8 0) && not (is_second_word words 8)) is.laid
      ∙ ap (λ n. is_wide_word n && not (is_second_word words 8)) (word_8 c)
  after_narrow (suc i) start e =
      let place : 8 + (suc i + 1) ≡ suc (8 + suc i) = omega arith in
      ap (is_second_word words) place
      ∙ ap (λ b. b && not (is_second_word words (8 + suc i))) (wide_word i false e)

  after_wide : (after : ℕ) → IsStart c after → wide_at after ≡ true
      → (is_second_word words (8 + (after + 1)) ≡ true)
      × (is_second_word words (8 + (after + 2)) ≡ false)
  after_wide zero start e = absurd (cc)
  after_wide (suc i) start e =
      let none = begins (suc i) (start (λ n. omega (arith, n))) in
      let one : 8 + (suc i + 1) ≡ suc (8 + suc i) = omega arith in
      let two : 8 + (suc i + 2) ≡ suc (suc (8 + suc i)) = omega arith in
      let second : is_second_word words (suc (8 + suc i)) ≡ true =
      λ j. wide_word i true e j && not (none j) in (
        ap (is_second_word words) one ∙ second,
        ap (is_second_word words) two
            ∙ (ap (λ b. is_wide_word (get_or words (suc (8 + suc i)) 0) && not b) second
            ∙ and_false (is_wide_word (get_or words (suc (8 + suc i)) 0))),
      )

  second_none : (k : ℕ) → is_second_word words (8 + k) ≡ true → constant_kept c k ≡ None
  second_none k e =
      sym (constant_read c words is k) ∙ none_second (k == 0)
      (nat_le (first_of (get_or words 2 0)) k) (is_second_word words (8 + k))
      (word_kept (get_or words (8 + k) 0) (get_or words (9 + k) 0)) e

  past_none : (k : ℕ) → first_of (get_or words 2 0) ≤ k → constant_kept c k ≡ None
  past_none k past =
      sym (constant_read c words is k) ∙ none_past (k == 0)
      (nat_le (first_of (get_or words 2 0)) k) (is_second_word words (8 + k))
      (word_kept (get_or words (8 + k) 0) (get_or words (9 + k) 0))
      (le-leb (first_of (get_or words 2 0)) k past)

  -- what is found at an index that is in the pool and isn't the second of a constant
  there : (j : ℕ) → 0 < j → j < first_of (get_or words 2 0)
      → is_second_word words (8 + j) ≡ false
      → constant_kept c j ≡ word_kept (get_or words (8 + j) 0) (get_or words (8 + j + 1) 0)
  there j some inside first =
      let positive : (j == 0) ≡ false = ne_eqb j 0 (λ e. omega (arith, e, some)) in
      let within : nat_le (first_of (get_or words 2 0)) j ≡ false =
      lt-leb (first_of (get_or words 2 0)) j inside in
      let next : 9 + j ≡ 8 + j + 1 = omega arith in
      sym (constant_read c words is j)
      ∙ ((λ i. if positive i then None else if within i then None else if first i then None
      else word_kept (get_or words (8 + j) 0) (get_or words (next i) 0)))

  -- such an index has a constant
  some_there : (j : ℕ) → 0 < j → j < first_of (get_or words 2 0)
      → is_second_word words (8 + j) ≡ false → IsSome (constant_kept c j)
  some_there zero some inside first = absurd (omega arith)
  some_there (suc i) some inside first =
      let slot = item_there c.slots i (omega (arith, inside, count_read c words is)) in
      let place : 8 + suc i ≡ 9 + i = omega arith in
      by_slot slot.0 slot.1
      (sym (second_is c is.spelled i (8 + suc i) slot.0 place slot.1)
      ∙ (ap (λ w. is_second_word w (8 + suc i)) (sym is.laid) ∙ first))
    where
      by_slot : (s : Slot) → slice_get c.slots i ≡ Some s → is_unusable s ≡ false
          → IsSome (constant_kept c (suc i))
      by_slot Unusable e usable = absurd (cc)
      by_slot (Usable d) e usable =
          subst (λ (o : Option Slot). IsSome (option_map (kept_constant (utf8_at c (suc i)))
          (option_and_then constant_in o))) (sym e) refl

  -- the next index at which a constant may begin
  module _ (after : ℕ) (start : IsStart c after) where
    abbrev pub next : ℕ
    next = after + step_of words after

    first_there : is_second_word words (8 + next) ≡ false
    first_there = by_width (wide_at after) refl
      where
        by_width : (b : Bool) → wide_at after ≡ b
            → is_second_word words (8 + (after + (if b then 2 else 1))) ≡ false
        by_width true e = (after_wide after start e).1
        by_width false e = after_narrow after start e

    pub none_between : (k : ℕ) → after < k → k < next → constant_kept c k ≡ None
    none_between k later before = by_width (wide_at after) refl before
      where
        by_width : (b : Bool) → wide_at after ≡ b → k < after + (if b then 2 else 1)
            → constant_kept c k ≡ None
        by_width true e lt =
            let same : k ≡ after + 1 = omega (arith, later, lt) in
            second_none k (ap (λ n. is_second_word words (8 + n)) same
            ∙ (after_wide after start e).0)
        by_width false e lt = absurd (omega (arith, later, lt))

    later_than : after < next
    later_than = by_width (wide_at after)
      where
        by_width : (b : Bool) → after < after + (if b then 2 else 1)
        by_width true = omega arith
        by_width false = omega arith

    pub none_after : first_of (get_or words 2 0) ≤ next → (k : ℕ) → after < k
        → constant_kept c k ≡ None
    none_after past k later = elim (cases_lt k next) [
      | inl lt ↦ none_between k later lt
      | inr le ↦ past_none k (omega (arith, past, le))
    ]

    pub next_there : next < first_of (get_or words 2 0) → (j place : ℕ) → j ≡ next
        → place ≡ 8 + j → (o : Option RecordConstant)
        → o ≡ word_kept (get_or words place 0) (get_or words (place + 1) 0)
        → (after < j) × IsSome o × (constant_kept c j ≡ o)
    next_there inside j place ej ep o eo =
        let at : constant_kept c next ≡ o =
        there next (omega (arith, later_than)) inside first_there
        ∙ ((λ i. word_kept (get_or words (back i) 0) (get_or words (back i + 1) 0)) ∙ sym eo) in (
          omega (arith, ej, later_than),
          subst IsSome at (some_there next (omega (arith, later_than)) inside first_there),
          ap (constant_kept c) ej ∙ at,
        )
      where
        back : 8 + next ≡ place
        back = omega (arith, ej, ep)
