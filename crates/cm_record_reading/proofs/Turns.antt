-- The turns of the loops that spell lists. `all` is what the whole loop should give: what the
-- buffer holds so far, followed by the spelling of what is left.
-- For `spell_attributes`, `spell_interfaces`, `spell_members`, `spell_slots`.
use Rattle.std.proofs.Common.{◌≡◌, ◌<◌, ◌≤◌, ◌+◌, ◌-◌, ◌^◌, ℕ, zero, suc, Bool, true, false, List}
use Rattle.std.proofs.Common.{[], ◌∷◌, ◌++◌, length, take, drop, get_or, Option, Some, None, refl}
use Rattle.std.proofs.Common.{sym, ◌∙◌, ap, subst, arith, append_assoc}
use Rattle.std.specs.Prelude.{nat_lt}
use Rattle.std.specs.List.{flat_map}
use Rattle.std.proofs.lemmas.List.{take_all, append-nil}
use Rattle.std.proofs.lemmas.Bool.{lt-ltb, le-ltb}
use Rattle.cm_class.specs.declared.constant.Slot.TheVariants.{Usable, Unusable}
use Rattle.cm_class.specs.declared.class_file.Attribute.{Attribute}
use Rattle.cm_class.specs.declared.class_file.Member.{Member}
use Rattle.cm_class.specs.Spelling.{is_wide, u2, slot_bytes, constant_bytes, attribute_bytes}
use Rattle.cm_class.specs.Spelling.{ClassConstant, member_bytes, counted}
use Rattle.cm_record_reading.specs.declared.fault.RecordFault.{RecordFault}
use Rattle.cm_record_reading.specs.declared.fault.RecordFault.TheVariants.{NotARecord, NoMemory}
use Rattle.cm_record_reading.specs.Reading.{Fails, ◌>>=◌, interfaces_from, constant_at, slots_at}
use Rattle.cm_record_reading.specs.Reading.{attribute_at, attributes_from, member_at, members_from}
use Rattle.cm_record_reading.specs.Reading.{appended, behind3, behind4, constant_behind}

module _ {A B : Type 0} (f : A → List ℕ) where
  behind-cons : (front : List ℕ) (x : A) (read : Option (List A × B))
      → appended (front ++ f x) (flat_map f) read
      ≡ appended front (flat_map f) (read >>= λ others. Some (x ∷ others.0, others.1))
  behind-cons front x None = refl
  behind-cons front x (Some read) = ap
      (λ w. Some (w, read.1)) (append_assoc front (f x) (flat_map f read.0))

  -- the count, which was put before the items, is the number of the items
  pub behind-counted : (front front' : List ℕ) (n : ℕ) (read : Option (List A × B))
      → front' ≡ front ++ u2 n → ((x : List A × B) → read ≡ Some x → length x.0 ≡ n)
      → appended front' (flat_map f) read ≡ appended front (counted f) read
  behind-counted front front' n None e many = refl
  behind-counted front front' n (Some read) e many =
      rw (e, many read refl)
      (ap (λ w. Some (w, read.1)) (append_assoc front (u2 n) (flat_map f read.0)))

module _ {A B : Type 0} (f : A → List ℕ) where
  -- what was read, if this was appended
  pub behind_found : (front front' : List ℕ) (b : B) (read : Option (A × B))
      → appended front f read ≡ Some (front', b)
      → (a : A) × (read ≡ Some (a, b)) × (front' ≡ front ++ f a)
  behind_found front front' b None e = absurd (cc)
  behind_found front front' b (Some read) e =
      let one : List ℕ × B = (front ++ f read.0, read.1) in
      let two : List ℕ × B = (front', b) in
      let same : one ≡ two = cc in (
        read.0,
        ap (λ p. Some (read.0, p.1)) same,
        sym (ap (λ p. p.0) same),
      )

  pub behind_none : (front : List ℕ) (read : Option (A × B)) → appended front f read ≡ None
      → read ≡ None
  behind_none front None e = refl
  behind_none front (Some read) e = absurd (cc)

module _ {A B C : Type 0} (f : A → List ℕ) where
  behind3-cons : (front : List ℕ) (x : A) (read : Option (List A × B × C))
      → behind3 (front ++ f x) (flat_map f) read
      ≡ behind3 front (flat_map f) (read >>= λ others. Some (x ∷ others.0, others.1, others.2))
  behind3-cons front x None = refl
  behind3-cons front x (Some read) = ap
      (λ w. Some (w, read.1, read.2)) (append_assoc front (f x) (flat_map f read.0))

  pub behind3-counted : (front front' : List ℕ) (n : ℕ) (read : Option (List A × B × C))
      → front' ≡ front ++ u2 n → ((x : List A × B × C) → read ≡ Some x → length x.0 ≡ n)
      → behind3 front' (flat_map f) read ≡ behind3 front (counted f) read
  behind3-counted front front' n None e many = refl
  behind3-counted front front' n (Some read) e many =
      rw (e, many read refl)
      (ap (λ w. Some (w, read.1, read.2)) (append_assoc front (u2 n) (flat_map f read.0)))

  pub behind3_found : (front front' : List ℕ) (b : B) (c : C) (read : Option (A × B × C))
      → behind3 front f read ≡ Some (front', b, c)
      → (a : A) × (read ≡ Some (a, b, c)) × (front' ≡ front ++ f a)
  behind3_found front front' b c None e = absurd (cc)
  behind3_found front front' b c (Some read) e =
      let one : List ℕ × B × C = (front ++ f read.0, read.1, read.2) in
      let two : List ℕ × B × C = (front', b, c) in
      let same : one ≡ two = cc in (
        read.0,
        ap (λ p. Some (read.0, p.1, p.2)) same,
        sym (ap (λ p. p.0) same),
      )

  pub behind3_none : (front : List ℕ) (read : Option (A × B × C)) → behind3 front f read ≡ None
      → read ≡ None
  behind3_none front None e = refl
  behind3_none front (Some read) e = absurd (cc)

module _ {A B C D : Type 0} (f : A → List ℕ) where
  behind4-cons : (front : List ℕ) (x : A) (read : Option (List A × B × C × D))
      → behind4 (front ++ f x) (flat_map f) read
      ≡ behind4 front (flat_map f)
      (read >>= λ others. Some (x ∷ others.0, others.1, others.2, others.3))
  behind4-cons front x None = refl
  behind4-cons front x (Some read) = ap
      (λ w. Some (w, read.1, read.2, read.3)) (append_assoc front (f x) (flat_map f read.0))

  pub behind4-counted : (front front' : List ℕ) (n : ℕ) (read : Option (List A × B × C × D))
      → front' ≡ front ++ u2 n → ((x : List A × B × C × D) → read ≡ Some x → length x.0 ≡ n)
      → behind4 front' (flat_map f) read ≡ behind4 front (counted f) read
  behind4-counted front front' n None e many = refl
  behind4-counted front front' n (Some read) e many =
      rw (e, many read refl)
      (ap (λ w. Some (w, read.1, read.2, read.3)) (append_assoc front (u2 n) (flat_map f read.0)))

  pub behind4_found : (front front' : List ℕ) (b : B) (c : C) (d : D)
      (read : Option (A × B × C × D))
      → behind4 front f read ≡ Some (front', b, c, d)
      → (a : A) × (read ≡ Some (a, b, c, d)) × (front' ≡ front ++ f a)
  behind4_found front front' b c d None e = absurd (cc)
  behind4_found front front' b c d (Some read) e =
      let one : List ℕ × B × C × D = (front ++ f read.0, read.1, read.2, read.3) in
      let two : List ℕ × B × C × D = (front', b, c, d) in
      let same : one ≡ two = cc in (
        read.0,
        ap (λ p. Some (read.0, p.1, p.2, p.3)) same,
        sym (ap (λ p. p.0) same),
      )

  pub behind4_none : (front : List ℕ) (read : Option (A × B × C × D)) → behind4 front f read ≡ None
      → read ≡ None
  behind4_none front None e = refl
  behind4_none front (Some read) e = absurd (cc)

-- ---- interfaces

pub interfaces_short : (out rest : List ℕ) (all : Option (List ℕ × List ℕ)) (n : ℕ)
    → appended out (flat_map u2) (interfaces_from n rest) ≡ all → 0 < n → length rest < 1
    → all ≡ None
unfolding interfaces_from
interfaces_short out rest all zero kept some short = absurd (omega arith)
interfaces_short out [] all (suc n) kept some short = sym kept
interfaces_short out (w ∷ ws) all (suc n) kept some short = absurd (omega arith)

pub interfaces_wrong : (out rest : List ℕ) (all : Option (List ℕ × List ℕ)) (n : ℕ)
    → appended out (flat_map u2) (interfaces_from n rest) ≡ all → 0 < n → 1 ≤ length rest
    → 2 ^ 16 ≤ get_or rest 0 0 → all ≡ None
unfolding interfaces_from
interfaces_wrong out rest all zero kept some long wrong = absurd (omega arith)
interfaces_wrong out [] all (suc n) kept some long wrong = absurd (omega arith)
interfaces_wrong out (w ∷ ws) all (suc n) kept some long wrong =
    let test : nat_lt w (2 ^ 16) ≡ false = le-ltb w (2 ^ 16) wrong in
    sym (rw test at kept)

pub interfaces_next : (out out' rest : List ℕ) (all : Option (List ℕ × List ℕ)) (n m : ℕ)
    → appended out (flat_map u2) (interfaces_from n rest) ≡ all → n ≡ m + 1 → 1 ≤ length rest
    → get_or rest 0 0 < 2 ^ 16
    → out' ≡ out ++ u2 (get_or rest 0 0)
    → appended out' (flat_map u2) (interfaces_from m (take (length rest - 1) (drop 1 rest))) ≡ all
unfolding interfaces_from
interfaces_next out out' rest all zero m kept en long small e = absurd (omega arith)
interfaces_next out out' [] all (suc n) m kept en long small e = absurd (omega arith)
interfaces_next out out' (w ∷ ws) all (suc n) m kept en long small e =
    let test : nat_lt w (2 ^ 16) ≡ true = lt-ltb w (2 ^ 16) small in
    let behind_it : take (length (w ∷ ws) - 1) (drop 1 (w ∷ ws)) ≡ ws =
    take_all (length (w ∷ ws) - 1) ws (omega arith) in
    let same : m ≡ n = omega arith in
    rw (e, same, behind_it) (behind-cons u2 out w (interfaces_from n ws) ∙ rw test at kept)

pub interfaces_done : (out rest : List ℕ) (all : Option (List ℕ × List ℕ)) (n : ℕ)
    → appended out (flat_map u2) (interfaces_from n rest) ≡ all → n ≡ 0 → all ≡ Some (out, rest)
unfolding interfaces_from
interfaces_done out rest all zero kept e = sym kept ∙ ap (λ w. Some (w, rest)) (append-nil out)
interfaces_done out rest all (suc n) kept e = absurd (omega arith)

-- ---- slots

-- what was read, if this was appended
constant_found : (out out' : List ℕ) (wide : Bool) (main' runs' : List ℕ)
    (read : Option (ClassConstant × List ℕ × List ℕ))
    → constant_behind out read ≡ Some (out', wide, main', runs')
    → (c : ClassConstant) × (read ≡ Some (c, main', runs')) × (out' ≡ out ++ constant_bytes c)
    × (is_wide c ≡ wide)
constant_found out out' wide main' runs' None e = absurd (cc)
constant_found out out' wide main' runs' (Some read) e =
    let one : List ℕ × Bool × List ℕ × List ℕ =
    (out ++ constant_bytes read.0, is_wide read.0, read.1, read.2) in
    let two : List ℕ × Bool × List ℕ × List ℕ = (out', wide, main', runs') in
    let same : one ≡ two = cc in (
      read.0,
      ap (λ p. Some (read.0, p.2, p.3)) same,
      sym (ap (λ p. p.0) same),
      ap (λ p. p.1) same,
    )

constant_none : (out : List ℕ) (read : Option (ClassConstant × List ℕ × List ℕ))
    → constant_behind out read ≡ None → read ≡ None
constant_none out None e = refl
constant_none out (Some read) e = absurd (cc)

module _ (total : ℕ) (out : List ℕ) (all : Option (List ℕ × List ℕ
    × List ℕ)) (main runs : List ℕ) (second : Bool) where
  pub slots_second : (n m : ℕ)
      → behind3 out (flat_map slot_bytes) (slots_at total second n main runs) ≡ all
      → second ≡ true → n ≡ m + 1
      → behind3 out (flat_map slot_bytes) (slots_at total false m main runs) ≡ all
  unfolding slots_at
  slots_second zero m kept es en = absurd (omega arith)
  slots_second (suc n) m kept es en =
      let same : m ≡ n = omega arith in
      let one = behind3-cons slot_bytes out Unusable (slots_at total false n main runs) in
      rw same (rw (append-nil out) at one ∙ rw es at kept)

  pub slots_next : (out' main' runs' : List ℕ) (wide : Bool) (n m : ℕ)
      → behind3 out (flat_map slot_bytes) (slots_at total second n main runs) ≡ all
      → second ≡ false → n ≡ m + 1
      → constant_behind out (constant_at total main runs) ≡ Some (out', wide, main', runs')
      → behind3 out' (flat_map slot_bytes) (slots_at total wide m main' runs') ≡ all
  unfolding slots_at
  slots_next out' main' runs' wide zero m kept es en found = absurd (omega arith)
  slots_next out' main' runs' wide (suc n) m kept es en found =
      let same : m ≡ n = omega arith in
      let read = constant_found out out' wide main' runs' (constant_at total main runs) found in
      let c : ClassConstant = read.0 in
      let again = subst (λ (o : List ℕ). behind3 o (flat_map slot_bytes)
      (slots_at total (is_wide c) n main' runs') ≡ all) (sym read.2)
      (behind3-cons slot_bytes out (Usable c) (slots_at total (is_wide c) n main' runs')
      ∙ rw (es, read.1) at kept) in
      rw same (subst (λ (w : Bool). behind3 out' (flat_map slot_bytes)
      (slots_at total w n main' runs') ≡ all) read.3 again)

  pub slots_wrong : (n : ℕ)
      → behind3 out (flat_map slot_bytes) (slots_at total second n main runs) ≡ all
      → second ≡ false → 0 < n → constant_behind out (constant_at total main runs) ≡ None
      → all ≡ None
  unfolding slots_at
  slots_wrong zero kept es some none = absurd (omega arith)
  slots_wrong (suc n) kept es some none =
      sym (rw (es, constant_none out (constant_at total main runs) none) at kept)

  pub slots_cut : (n : ℕ)
      → behind3 out (flat_map slot_bytes) (slots_at total second n main runs) ≡ all
      → second ≡ true → n ≡ 0 → all ≡ None
  unfolding slots_at
  slots_cut zero kept es e = sym (rw es at kept)
  slots_cut (suc n) kept es e = absurd (omega arith)

  pub slots_done : (n : ℕ)
      → behind3 out (flat_map slot_bytes) (slots_at total second n main runs) ≡ all
      → second ≡ false → n ≡ 0 → all ≡ Some (out, main, runs)
  unfolding slots_at
  slots_done zero kept es e = sym (rw es at kept) ∙ ap
      (λ w. Some (w, main, runs)) (append-nil out)
  slots_done (suc n) kept es e = absurd (omega arith)

-- ---- attributes

module _ (total : ℕ) (out : List ℕ) (all : Option (List ℕ × List ℕ
    × List ℕ)) (attrs runs : List ℕ) where
  pub attributes_next : (out' attrs' runs' : List ℕ) (n m : ℕ)
      → behind3 out (flat_map attribute_bytes) (attributes_from total n attrs runs) ≡ all
      → n ≡ m + 1
      → behind3 out attribute_bytes (attribute_at total attrs runs) ≡ Some (out', attrs', runs')
      → behind3 out' (flat_map attribute_bytes) (attributes_from total m attrs' runs') ≡ all
  unfolding attributes_from
  attributes_next out' attrs' runs' zero m kept en found = absurd (omega arith)
  attributes_next out' attrs' runs' (suc n) m kept en found =
      let same : m ≡ n = omega arith in
      let read =
      behind3_found attribute_bytes out out' attrs' runs' (attribute_at total attrs runs) found in
      let a : Attribute = read.0 in
      rw (same, read.2)
      (behind3-cons attribute_bytes out a (attributes_from total n attrs' runs')
      ∙ rw read.1 at kept)

  pub attributes_wrong : (n : ℕ)
      → behind3 out (flat_map attribute_bytes) (attributes_from total n attrs runs) ≡ all
      → 0 < n → behind3 out attribute_bytes (attribute_at total attrs runs) ≡ None
      → all ≡ None
  unfolding attributes_from
  attributes_wrong zero kept some none = absurd (omega arith)
  attributes_wrong (suc n) kept some none =
      sym (rw (behind3_none attribute_bytes out (attribute_at total attrs runs) none) at kept)

  pub attributes_done : (n : ℕ)
      → behind3 out (flat_map attribute_bytes) (attributes_from total n attrs runs) ≡ all
      → n ≡ 0 → all ≡ Some (out, attrs, runs)
  unfolding attributes_from
  attributes_done zero kept e = sym kept ∙ ap (λ w. Some (w, attrs, runs)) (append-nil out)
  attributes_done (suc n) kept e = absurd (omega arith)

-- ---- members

module _ (total : ℕ) (out : List ℕ) (all : Option (List ℕ × List ℕ × List ℕ
    × List ℕ)) (main attrs runs : List ℕ) where
  pub members_next : (out' main' attrs' runs' : List ℕ) (n m : ℕ)
      → behind4 out (flat_map member_bytes) (members_from total n main attrs runs) ≡ all
      → n ≡ m + 1
      → behind4 out member_bytes (member_at total main attrs runs)
      ≡ Some (out', main', attrs', runs')
      → behind4 out' (flat_map member_bytes) (members_from total m main' attrs' runs') ≡ all
  unfolding members_from
  members_next out' main' attrs' runs' zero m kept en found = absurd (omega arith)
  members_next out' main' attrs' runs' (suc n) m kept en found =
      let same : m ≡ n = omega arith in
      let read =
      behind4_found member_bytes out out' main' attrs' runs' (member_at total main attrs runs)
      found in
      let x : Member = read.0 in
      rw (same, read.2)
      (behind4-cons member_bytes out x (members_from total n main' attrs' runs')
      ∙ rw read.1 at kept)

  pub members_wrong : (n : ℕ)
      → behind4 out (flat_map member_bytes) (members_from total n main attrs runs) ≡ all
      → 0 < n → behind4 out member_bytes (member_at total main attrs runs) ≡ None
      → all ≡ None
  unfolding members_from
  members_wrong zero kept some none = absurd (omega arith)
  members_wrong (suc n) kept some none =
      sym (rw (behind4_none member_bytes out (member_at total main attrs runs) none) at kept)

  pub members_done : (n : ℕ)
      → behind4 out (flat_map member_bytes) (members_from total n main attrs runs) ≡ all
      → n ≡ 0 → all ≡ Some (out, main, attrs, runs)
  unfolding members_from
  members_done zero kept e = sym kept ∙ ap (λ w. Some (w, main, attrs, runs)) (append-nil out)
  members_done (suc n) kept e = absurd (omega arith)

-- if a part fails, the whole fails
pub fails_through : {X Y : Type 0} (e : RecordFault) (part : Option X) (all : Option Y)
    → (part ≡ None → all ≡ None) → Fails e part → Fails e all
fails_through NotARecord part all follows none = follows none
fails_through NoMemory part all follows none = tt
