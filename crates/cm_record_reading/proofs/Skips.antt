-- The turns of the loops that keep nothing. `all` is what the whole loop should leave.
-- For `skip_attributes`, `skip_interfaces`, `skip_members` and others.
use Rattle.std.proofs.Common.{◌≡◌, ◌<◌, ◌≤◌, ◌+◌, ◌*◌, ◌-◌, ◌^◌, ℕ, zero, suc, Bool, true, false}
use Rattle.std.proofs.Common.{List, [], ◌∷◌, length, take, drop, get_or, Option, Some, None, refl}
use Rattle.std.proofs.Common.{sym, ◌∙◌, ap, arith}
use Rattle.std.specs.Prelude.{nat_lt}
use Rattle.std.proofs.lemmas.List.{take_all}
use Rattle.std.proofs.lemmas.Bool.{lt-ltb, le-ltb}
use Rattle.cm_class.specs.declared.constant.Slot.TheVariants.{Usable, Unusable}
use Rattle.cm_class.specs.declared.class_file.Attribute.{Attribute}
use Rattle.cm_class.specs.declared.class_file.Member.{Member}
use Rattle.cm_class.specs.Spelling.{ClassConstant, is_wide}
use Rattle.cm_record_layout.specs.Packing.{word_bytes}
use Rattle.cm_record_reading.specs.Reading.{◌>>=◌, run_at, interfaces_from, constant_at}
use Rattle.cm_record_reading.specs.Reading.{slots_at, attribute_at, attributes_from, member_at}
use Rattle.cm_record_reading.specs.Reading.{members_from, with_front, left1, left2, left3}
use Rattle.cm_record_reading.specs.Reading.{width_left}
use Rattle.cm_record_reading.proofs.Fronts.{AreSmall, run_words_first}

left1-with_front : {A B : Type 0} (front : List A) (read : Option (List A × B))
    → left1 (with_front front read) ≡ left1 read
left1-with_front front None = refl
left1-with_front front (Some read) = refl

left1-more : {A B C : Type 0} (f : A → C) (read : Option (A × B))
    → left1 (read >>= λ others. Some (f others.0, others.1)) ≡ left1 read
left1-more f None = refl
left1-more f (Some read) = refl

left2-more : {A B C D : Type 0} (f : A → D) (read : Option (A × B × C))
    → left2 (read >>= λ others. Some (f others.0, others.1, others.2)) ≡ left2 read
left2-more f None = refl
left2-more f (Some read) = refl

left3-more : {A B C D E : Type 0} (f : A → E) (read : Option (A × B × C × D))
    → left3 (read >>= λ others. Some (f others.0, others.1, others.2, others.3)) ≡ left3 read
left3-more f None = refl
left3-more f (Some read) = refl

-- what was read, if this is left

left2_found : {A B C : Type 0} (read : Option (A × B × C)) (x : B × C) → left2 read ≡ Some x
    → (a : A) × (read ≡ Some (a, x.0, x.1))
left2_found None x e = absurd (cc)
left2_found (Some read) x e = let same : (read.1, read.2) ≡ x = cc in (
  read.0,
  ap
      (λ p. Some (read.0, p.0, p.1)) same,
)

pub left2_none : {A B C : Type 0} (read : Option (A × B × C)) → left2 read ≡ None → read ≡ None
left2_none None e = refl
left2_none (Some read) e = absurd (cc)

left3_found : {A B C D : Type 0} (read : Option (A × B × C × D)) (x : B × C × D)
    → left3 read ≡ Some x → (a : A) × (read ≡ Some (a, x.0, x.1, x.2))
left3_found None x e = absurd (cc)
left3_found (Some read) x e = let same : (read.1, read.2, read.3) ≡ x = cc in (
  read.0,
  ap
      (λ p. Some (read.0, p.0, p.1, p.2)) same,
)

left3_none : {A B C D : Type 0} (read : Option (A × B × C × D)) → left3 read ≡ None → read ≡ None
left3_none None e = refl
left3_none (Some read) e = absurd (cc)

width_found : (read : Option (ClassConstant × List ℕ × List ℕ)) (x : Bool × List ℕ × List ℕ)
    → width_left read ≡ Some x → (c : ClassConstant) × (is_wide c ≡ x.0)
    × (read ≡ Some (c, x.1, x.2))
width_found None x e = absurd (cc)
width_found (Some read) x e = let same : (is_wide read.0, read.1, read.2) ≡ x =
    cc in (read.0, ap (λ p. p.0) same, ap (λ p. Some (read.0, p.1, p.2)) same)

width_none : (read : Option (ClassConstant × List ℕ × List ℕ))
    → width_left read ≡ None → read ≡ None
width_none None e = refl
width_none (Some read) e = absurd (cc)

-- ---- runs: whole words first, and then the end

pub run_behind : (n left : ℕ) (words : List ℕ) → n ≤ length words → 8 * n ≤ left
    → AreSmall words → left1 (run_at left words) ≡ left1 (run_at (left - 8 * n) (drop n words))
run_behind n left words within few small =
    ap left1 (run_words_first n left words within few small)
    ∙ left1-with_front (word_bytes (take n words)) (run_at (left - 8 * n) (drop n words))

-- ---- interfaces

pub interfaces_short : (rest : List ℕ) (all : Option (List ℕ)) (n : ℕ)
    → left1 (interfaces_from n rest) ≡ all → 0 < n → length rest < 1 → all ≡ None
unfolding interfaces_from
interfaces_short rest all zero kept some short = absurd (omega arith)
interfaces_short [] all (suc n) kept some short = sym kept
interfaces_short (w ∷ ws) all (suc n) kept some short = absurd (omega arith)

pub interfaces_wrong : (rest : List ℕ) (all : Option (List ℕ)) (n : ℕ)
    → left1 (interfaces_from n rest) ≡ all → 0 < n → 1 ≤ length rest → 2 ^ 16 ≤ get_or rest 0 0
    → all ≡ None
unfolding interfaces_from
interfaces_wrong rest all zero kept some long wrong = absurd (omega arith)
interfaces_wrong [] all (suc n) kept some long wrong = absurd (omega arith)
interfaces_wrong (w ∷ ws) all (suc n) kept some long wrong =
    let test : nat_lt w (2 ^ 16) ≡ false = le-ltb w (2 ^ 16) wrong in
    sym (rw test at kept)

pub interfaces_next : (rest : List ℕ) (all : Option (List ℕ)) (n m : ℕ)
    → left1 (interfaces_from n rest) ≡ all → n ≡ m + 1 → 1 ≤ length rest → get_or rest 0 0 < 2 ^ 16
    → left1 (interfaces_from m (take (length rest - 1) (drop 1 rest))) ≡ all
unfolding interfaces_from
interfaces_next rest all zero m kept en long small = absurd (omega arith)
interfaces_next [] all (suc n) m kept en long small = absurd (omega arith)
interfaces_next (w ∷ ws) all (suc n) m kept en long small =
    let test : nat_lt w (2 ^ 16) ≡ true = lt-ltb w (2 ^ 16) small in
    let behind : take (length (w ∷ ws) - 1) (drop 1 (w ∷ ws)) ≡ ws =
    take_all (length (w ∷ ws) - 1) ws (omega arith) in
    let same : m ≡ n = omega arith in
    rw (same, behind) (sym (left1-more
    (λ these. w ∷ these) (interfaces_from n ws)) ∙ rw test at kept)

pub interfaces_done : (rest : List ℕ) (all : Option (List ℕ)) (n : ℕ)
    → left1 (interfaces_from n rest) ≡ all → n ≡ 0 → all ≡ Some rest
unfolding interfaces_from
interfaces_done rest all zero kept e = sym kept
interfaces_done rest all (suc n) kept e = absurd (omega arith)

-- ---- slots

module _ (total : ℕ) (all : Option (List ℕ × List ℕ)) (main runs : List ℕ) (second : Bool) where
  pub slots_second : (n m : ℕ) → left2 (slots_at total second n main runs) ≡ all → second ≡ true
      → n ≡ m + 1 → left2 (slots_at total false m main runs) ≡ all
  unfolding slots_at
  slots_second zero m kept es en = absurd (omega arith)
  slots_second (suc n) m kept es en =
      let same : m ≡ n = omega arith in
      rw same (sym (left2-more
      (λ these. Unusable ∷ these) (slots_at total false n main runs)) ∙ rw es at kept)

  pub slots_next : (main' runs' : List ℕ) (wide : Bool) (n m : ℕ)
      → left2 (slots_at total second n main runs) ≡ all → second ≡ false → n ≡ m + 1
      → width_left (constant_at total main runs) ≡ Some (wide, main', runs')
      → left2 (slots_at total wide m main' runs') ≡ all
  unfolding slots_at
  slots_next main' runs' wide zero m kept es en found = absurd (omega arith)
  slots_next main' runs' wide (suc n) m kept es en found =
      let same : m ≡ n = omega arith in
      let read = width_found (constant_at total main runs) (wide, main', runs') found in
      let c : ClassConstant = read.0 in
      rw (same, ← read.1) (sym (left2-more
      (λ these. Usable c ∷ these) (slots_at total (is_wide c) n main' runs'))
      ∙ rw (es, read.2) at kept)

  pub slots_wrong : (n : ℕ) → left2 (slots_at total second n main runs) ≡ all → second ≡ false
      → 0 < n → width_left (constant_at total main runs) ≡ None → all ≡ None
  unfolding slots_at
  slots_wrong zero kept es some none = absurd (omega arith)
  slots_wrong (suc n) kept es some none =
      sym (rw (es, width_none (constant_at total main runs) none) at kept)

  pub slots_cut : (n : ℕ) → left2 (slots_at total second n main runs) ≡ all → second ≡ true
      → n ≡ 0 → all ≡ None
  unfolding slots_at
  slots_cut zero kept es e = sym (rw es at kept)
  slots_cut (suc n) kept es e = absurd (omega arith)

  pub slots_done : (n : ℕ) → left2 (slots_at total second n main runs) ≡ all → second ≡ false
      → n ≡ 0 → all ≡ Some (main, runs)
  unfolding slots_at
  slots_done zero kept es e = sym (rw es at kept)
  slots_done (suc n) kept es e = absurd (omega arith)

-- ---- attributes

module _ (total : ℕ) (all : Option (List ℕ × List ℕ)) (attrs runs : List ℕ) where
  pub attributes_next : (attrs' runs' : List ℕ) (n m : ℕ)
      → left2 (attributes_from total n attrs runs) ≡ all → n ≡ m + 1
      → left2 (attribute_at total attrs runs) ≡ Some (attrs', runs')
      → left2 (attributes_from total m attrs' runs') ≡ all
  unfolding attributes_from
  attributes_next attrs' runs' zero m kept en found = absurd (omega arith)
  attributes_next attrs' runs' (suc n) m kept en found =
      let same : m ≡ n = omega arith in
      let read = left2_found (attribute_at total attrs runs) (attrs', runs') found in
      let a : Attribute = read.0 in
      rw same (sym (left2-more
      (λ these. a ∷ these) (attributes_from total n attrs' runs')) ∙ rw read.1 at kept)

  pub attributes_wrong : (n : ℕ) → left2 (attributes_from total n attrs runs) ≡ all → 0 < n
      → left2 (attribute_at total attrs runs) ≡ None → all ≡ None
  unfolding attributes_from
  attributes_wrong zero kept some none = absurd (omega arith)
  attributes_wrong (suc n) kept some none =
      sym (rw (left2_none (attribute_at total attrs runs) none) at kept)

  pub attributes_done : (n : ℕ) → left2 (attributes_from total n attrs runs) ≡ all → n ≡ 0
      → all ≡ Some (attrs, runs)
  unfolding attributes_from
  attributes_done zero kept e = sym kept
  attributes_done (suc n) kept e = absurd (omega arith)

-- ---- members

module _ (total : ℕ) (all : Option (List ℕ × List ℕ × List ℕ)) (main attrs runs : List ℕ) where
  pub members_next : (main' attrs' runs' : List ℕ) (n m : ℕ)
      → left3 (members_from total n main attrs runs) ≡ all → n ≡ m + 1
      → left3 (member_at total main attrs runs) ≡ Some (main', attrs', runs')
      → left3 (members_from total m main' attrs' runs') ≡ all
  unfolding members_from
  members_next main' attrs' runs' zero m kept en found = absurd (omega arith)
  members_next main' attrs' runs' (suc n) m kept en found =
      let same : m ≡ n = omega arith in
      let read = left3_found (member_at total main attrs runs) (main', attrs', runs') found in
      let x : Member = read.0 in
      rw same (sym (left3-more
      (λ these. x ∷ these) (members_from total n main' attrs' runs')) ∙ rw read.1 at kept)

  pub members_wrong : (n : ℕ) → left3 (members_from total n main attrs runs) ≡ all → 0 < n
      → left3 (member_at total main attrs runs) ≡ None → all ≡ None
  unfolding members_from
  members_wrong zero kept some none = absurd (omega arith)
  members_wrong (suc n) kept some none =
      sym (rw (left3_none (member_at total main attrs runs) none) at kept)

  pub members_done : (n : ℕ) → left3 (members_from total n main attrs runs) ≡ all → n ≡ 0
      → all ≡ Some (main, attrs, runs)
  unfolding members_from
  members_done zero kept e = sym kept
  members_done (suc n) kept e = absurd (omega arith)
