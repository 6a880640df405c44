-- Loops that search for the first duplicate, and what they find.
-- For `first_among_repeated`, `first_by_pairs`, `first_duplicate_is_the_first`.
use Rattle.std.proofs.Common.{◌≡◌, ⊎_elim, ℕ, zero, suc, ◌+◌, ◌<◌, ◌≤◌, Bool, true, false, cond}
use Rattle.std.proofs.Common.{List, [], ◌∷◌, length, get_or, take, drop, Option, Some, None, refl}
use Rattle.std.proofs.Common.{sym, ap, ◌∙◌, add-one, drop-cons, arith}
use Rattle.std.specs.Prelude.{bytes_eq}
use Rattle.std.specs.List.{list_any}
use Rattle.std.specs.Cmp.Lexicographic.{bytes_decides}
use Rattle.std.proofs.lemmas.Bool.{cases_Bool, cases_order, or_cases, or_left, or_right, and_parts}
use Rattle.std.proofs.lemmas.Bool.{and_from, false_from_ne_true, not_from_true, not_from_false}
use Rattle.std.proofs.lemmas.Bool.{not-false}
use Rattle.std.proofs.lemmas.List.{drop_all}
use Rattle.cm_class.specs.declared.class_file.ClassFile.{ClassFile}
use Rattle.cm_class.specs.declared.class_file.Member.{Member}
use Rattle.cm_class.specs.Names.{utf8}
use Rattle.cm_duplicates.specs.Duplicates.{same_member, is_first, first_failing, first_duplicate}
use Rattle.cm_duplicates.specs.First.{Agree, IsDuplicate, IsFirstDuplicate}

-- ---- the first item that fails a test

module _ {A : Type 0} (test : ℕ → A → Bool) where
  step : (items : List A) (i : ℕ) (x : A) → i < length items → x ≡ get_or items i x
      → first_failing test i (drop i items)
      ≡ cond (test i x) (first_failing test (i + 1) (drop (i + 1) items)) (Some i)
  unfolding first_failing
  step items i x lt is = rw (drop-cons items i x lt, ← is, add-one) refl

  pub fails_here : (items : List A) (i : ℕ) (x : A) (total : Option ℕ) → i < length items
      → x ≡ get_or items i x → test i x ≡ false → first_failing test i (drop i items) ≡ total
      → Some i ≡ total
  fails_here items i x total lt is h so_far =
      sym (ap (λ (b : Bool). cond b (first_failing test (i + 1) (drop (i + 1) items)) (Some i)) h) ∙
      sym (step items i x lt is) ∙ so_far

  pub passes_here : (items : List A) (i : ℕ) (x : A) (total : Option ℕ) → i < length items
      → x ≡ get_or items i x → test i x ≡ true → first_failing test i (drop i items) ≡ total
      → first_failing test (i + 1) (drop (i + 1) items) ≡ total
  passes_here items i x total lt is h so_far =
      sym (ap (λ (b : Bool). cond b (first_failing test (i + 1) (drop (i + 1) items)) (Some i)) h) ∙
      sym (step items i x lt is) ∙ so_far

  pub none_fails : (items : List A) (i : ℕ) (total : Option ℕ) → length items ≤ i
      → first_failing test i (drop i items) ≡ total → None ≡ total
  unfolding first_failing
  none_fails items i total le so_far =
      ap (first_failing test i) (sym (drop_all i items le)) ∙ so_far

  -- each item from a place on passes
  pub all_pass : (front : ℕ) (items : List A)
      → ((i : ℕ) (x : A) → i < length items → test (front + i) (get_or items i x) ≡ true)
      → first_failing test front items ≡ None
  unfolding first_failing
  all_pass front [] passes = refl
  all_pass front (x ∷ items) passes =
      let here : test front x ≡ true =
      ap (λ (k : ℕ). test k x) (let e : front ≡ front + 0 = omega arith in e) ∙ passes 0 x
      (omega arith) in
      rw here (all_pass (front + 1) items
      (λ i y lt. ap (λ (k : ℕ). test k (get_or items i y))
      (let e : (front + 1) + i ≡ front + suc i = omega arith in e) ∙ passes (suc i) y
      (omega arith)))

  pub all_passed : (front : ℕ) (items : List A) → first_failing test front items ≡ None
      → (i : ℕ) (x : A) → i < length items → test (front + i) (get_or items i x) ≡ true
  unfolding first_failing
  all_passed front [] h i x lt = absurd (omega (arith, lt))
  all_passed front (y ∷ items) h i x lt =
      by_test (test front y) refl h (all_passed (front + 1) items) i lt
    where
      at : test front y ≡ true
          → ((i : ℕ) (x : A) → i < length items → test ((front + 1) + i) (get_or items i x) ≡ true)
          → (i : ℕ) → i < length (y ∷ items) → test (front + i) (get_or (y ∷ items) i x) ≡ true
      at t on zero lt = ap (λ (k : ℕ). test k y) (let e : front + 0 ≡ front = omega arith in e) ∙ t
      at t on (suc i) lt =
          ap (λ (k : ℕ). test k (get_or items i x))
          (let e : front + suc i ≡ (front + 1) + i = omega arith in e) ∙ on i x (omega (arith, lt))

      by_test : (b : Bool) → test front y ≡ b
          → cond b (first_failing test (front + 1) items) (Some front) ≡ None
          → (first_failing test (front + 1) items ≡ None → (i : ℕ) (x : A) → i < length items
          → test ((front + 1) + i) (get_or items i x) ≡ true) → (i : ℕ) → i < length (y ∷ items)
          → test (front + i) (get_or (y ∷ items) i x) ≡ true
      by_test true t h on = at t (on h)
      by_test false t h on = absurd cc

  -- an item fails, and each before it passes
  pub record FailsFirst (front : ℕ) (items : List A) (place : ℕ) : Type 0 where
    pub index : ℕ
    pub at : front + index ≡ place
    pub within : index < length items
    pub fails : (x : A) → test place (get_or items index x) ≡ false
    pub pass : (k : ℕ) (x : A) → k < index → test (front + k) (get_or items k x) ≡ true

  pub fails_first : (front : ℕ) (items : List A) (place : ℕ)
      → first_failing test front items ≡ Some place → FailsFirst front items place
  unfolding first_failing
  fails_first front [] place h = absurd cc
  fails_first front (x ∷ items) place h =
      by_test (test front x) refl h (fails_first (front + 1) items place)
    where
      here : test front x ≡ false → front ≡ place → FailsFirst front (x ∷ items) place
      here f e = record {
        index = 0;
        at = omega (arith, e);
        within = omega arith;
        fails = λ y. ap (λ (k : ℕ). test k x) (sym e) ∙ f;
        pass = λ k y lt. absurd (omega (arith, lt));
      }

      later : test front x ≡ true → FailsFirst (front + 1) items place
          → FailsFirst front (x ∷ items) place
      later t on = record {
        index = suc on.index;
        at = omega (arith, on.at);
        within = omega (arith, on.within);
        fails = on.fails;
        pass = before;
      }
        where
          before : (k : ℕ) (y : A) → k < suc on.index
              → test (front + k) (get_or (x ∷ items) k y) ≡ true
          before zero y lt =
              ap (λ (k : ℕ). test k x) (let e : front + 0 ≡ front = omega arith in e) ∙ t
          before (suc k) y lt =
              ap (λ (j : ℕ). test j (get_or items k y))
              (let e : front + suc k ≡ (front + 1) + k = omega arith in e) ∙ on.pass k y
              (omega (arith, lt))

      by_test : (b : Bool) → test front x ≡ b
          → cond b (first_failing test (front + 1) items) (Some front) ≡ Some place
          → (first_failing test (front + 1) items ≡ Some place → FailsFirst (front + 1) items place)
          → FailsFirst front (x ∷ items) place
      by_test true t h on = later t (on h)
      by_test false f h on = let e : front ≡ place = cc in here f e

-- ---- a test that some item before a place passes

module _ {A : Type 0} (test : A → Bool) where
  pub any_from : (items : List A) (i k : ℕ) (x : A) → k < i → k < length items
      → test (get_or items k x) ≡ true → list_any test (take i items) ≡ true
  any_from [] i k x lt within t = absurd (omega (arith, within))
  any_from (y ∷ items) zero k x lt within t = absurd (omega (arith, lt))
  any_from (y ∷ items) (suc i) zero x lt within t =
      or_left (test y) (list_any test (take i items)) t
  any_from (y ∷ items) (suc i) (suc k) x lt within t =
      or_right (test y) (list_any test (take i items))
      (any_from items i k x (omega (arith, lt)) (omega (arith, within)) t)

  pub record SomeBefore (items : List A) (i : ℕ) : Type 0 where
    pub place : ℕ
    pub before : place < i
    pub within : place < length items
    pub passes : (x : A) → test (get_or items place x) ≡ true

  pub some_before : (items : List A) (i : ℕ) → list_any test (take i items) ≡ true
      → SomeBefore items i
  some_before [] zero h = absurd cc
  some_before [] (suc i) h = absurd cc
  some_before (y ∷ items) zero h = absurd cc
  some_before (y ∷ items) (suc i) h =
      ⊎_elim here (λ t. later (some_before items i t))
      (or_cases (test y) (list_any test (take i items)) h)
    where
      here : test y ≡ true → SomeBefore (y ∷ items) (suc i)
      here t = record { place = 0; before = omega arith; within = omega arith; passes = λ x. t }

      later : SomeBefore items i → SomeBefore (y ∷ items) (suc i)
      later on = record {
        place =
            suc on.place;
        before =
            omega (arith, on.before);
        within = omega (arith, on.within);
        passes = on.passes;
      }

  pub none_before : (items : List A) (i : ℕ)
      → ((k : ℕ) (x : A) → k < i → k < length items → test (get_or items k x) ≡ true → ⊥)
      → list_any test (take i items) ≡ false
  none_before items i none =
      false_from_ne_true (list_any test (take i items))
      (λ t. let on = some_before items i t in lacks on)
    where
      lacks : SomeBefore items i → ⊥
      lacks on = by_items items on.within (λ x. none on.place x on.before on.within (on.passes x))
        where
          by_items : (l : List A) → on.place < length l → (A → ⊥) → ⊥
          by_items [] lt none_at = omega (arith, lt)
          by_items (x ∷ l) lt none_at = none_at x

-- ---- members that agree

pub agree : (c : ClassFile) (m n : Member) → same_member c m n ≡ true → Agree c m n
agree c m n h =
    let both = and_parts (bytes_eq (utf8 c m.name) (utf8 c n.name))
    (bytes_eq (utf8 c m.descriptor) (utf8 c n.descriptor)) h in
    record {
      name =
          (bytes_decides (utf8 c m.name) (utf8 c n.name)).0 both.0;
      descriptor =
          (bytes_decides (utf8 c m.descriptor) (utf8 c n.descriptor)).0 both.1;
    }

pub same : (c : ClassFile) (m n : Member) → Agree c m n → same_member c m n ≡ true
same c m n h =
    and_from (bytes_eq (utf8 c m.name) (utf8 c n.name))
    (bytes_eq (utf8 c m.descriptor) (utf8 c n.descriptor))
    ((bytes_decides (utf8 c m.name) (utf8 c n.name)).1 h.name)
    ((bytes_decides (utf8 c m.descriptor) (utf8 c n.descriptor)).1 h.descriptor)

-- no member before it agrees
pub stands_first : (c : ClassFile) (members : List Member) (i : ℕ) (m : Member)
    → ((k : ℕ) (x : Member) → k < i → k < length members → Agree c m (get_or members k x) → ⊥)
    → is_first c members i m ≡ true
stands_first c members i m none =
    not_from_false _
    (none_before (same_member c m) members i
    (λ k x lt within t. none k x lt within (agree c m (get_or members k x) t)))

-- a member before it agrees
pub stands_again : (c : ClassFile) (members : List Member) (i k : ℕ) (m x : Member) → k < i
    → k < length members → Agree c m (get_or members k x) → is_first c members i m ≡ false
stands_again c members i k m x lt within h =
    not_from_true _
    (any_from (same_member c m) members i k x lt within (same c m (get_or members k x) h))

-- ---- the law

module _ (c : ClassFile) (members : List Member) where
  -- a place's member doesn't depend on the default
  default_is : (i : ℕ) (x y : Member) → i < length members → get_or members i x ≡ get_or members i y
  default_is i x y lt = from members i lt
    where
      from : (l : List Member) (i : ℕ) → i < length l → get_or l i x ≡ get_or l i y
      from [] i lt = absurd (omega (arith, lt))
      from (m ∷ l) zero lt = refl
      from (m ∷ l) (suc i) lt = from l i (omega (arith, lt))

  duplicate_here : (i : ℕ) (x : Member) → i < length members
      → is_first c members i (get_or members i x) ≡ false → IsDuplicate c members i
  duplicate_here i x within h =
      let on = some_before (same_member c (get_or members i x)) members i
      (not-false (list_any (same_member c (get_or members i x)) (take i members)) h) in
      record {
        within = within;
        earlier = on.place;
        before = on.before;
        agree = λ y.
            rw (default_is i y x within)
            (agree c (get_or members i x) (get_or members on.place y) (on.passes y));
      }

  fails_here_too : (i : ℕ) (x : Member) → IsDuplicate c members i
      → is_first c members i (get_or members i x) ≡ false
  fails_here_too i x d =
      stands_again c members i d.earlier (get_or members i x) x d.before
      (omega (arith, d.before, d.within)) (d.agree x)

  no_duplicate : (i : ℕ) (x : Member) → is_first c members i (get_or members i x) ≡ true
      → ¬ IsDuplicate c members i
  no_duplicate i x h d = let e = fails_here_too i x d in absurd cc

  passes_too : (i : ℕ) (x : Member) → i < length members → ¬ IsDuplicate c members i
      → is_first c members i (get_or members i x) ≡ true
  passes_too i x within alone =
      ⊎_elim (λ t. t) (λ f. absurd (alone (duplicate_here i x within f)))
      (cases_Bool (is_first c members i (get_or members i x)))

  pub found_is_first : (place : ℕ) → first_duplicate c members ≡ Some place
      → IsFirstDuplicate c members place
  found_is_first place h = whole members refl (fails_first (is_first c members) 0 members place h)
    where
      whole : (l : List Member) → l ≡ members → FailsFirst (is_first c members) 0 members place
          → IsFirstDuplicate c members place
      whole [] e on = absurd (omega (arith, ap length e, on.within))
      whole (x ∷ l) e on =
          let at : on.index ≡ place = omega (arith, on.at) in
          let within : place < length members = omega (arith, at, on.within) in
          record {
            duplicate = duplicate_here place x within
                (ap (λ (k : ℕ). is_first c members place (get_or members k x)) (sym at) ∙ on.fails
                x);
            first = λ k lt.
                no_duplicate k x
                (ap (λ (j : ℕ). is_first c members j (get_or members k x))
                (let z : k ≡ 0 + k = omega arith in z) ∙ on.pass k x (omega (arith, at, lt)));
          }

  pub none_found : first_duplicate c members ≡ None → (place : ℕ) → ¬ IsDuplicate c members place
  none_found h place d = whole members refl
    where
      whole : (l : List Member) → l ≡ members → ⊥
      whole [] e = omega (arith, ap length e, d.within)
      whole (x ∷ l) e =
          let passes : is_first c members place (get_or members place x) ≡ true =
          ap (λ (k : ℕ). is_first c members k (get_or members place x))
          (let z : place ≡ 0 + place = omega arith in z) ∙ all_passed (is_first c members) 0
          members h place x d.within in
          no_duplicate place x passes d

  pub none_from : ((place : ℕ) → ¬ IsDuplicate c members place) → first_duplicate c members ≡ None
  none_from alone =
      all_pass (is_first c members) 0 members
      (λ i x lt. let z : 0 + i ≡ i = omega arith in rw z (passes_too i x lt (alone i)))

  pub first_from : (place : ℕ) → IsFirstDuplicate c members place
      → first_duplicate c members ≡ Some place
  first_from place is = by_found (first_duplicate c members) refl
    where
      -- another first duplicate is neither before nor after
      one : (k : ℕ) → IsFirstDuplicate c members k → k ≡ place
      one k other =
          ⊎_elim (λ e. e)
          (λ apart. ⊎_elim (λ lt. absurd (is.first k lt other.duplicate))
          (λ lt. absurd (other.first place lt is.duplicate)) apart) (cases_order k place)

      by_found : (o : Option ℕ) → first_duplicate c members ≡ o
          → first_duplicate c members ≡ Some place
      by_found None e = absurd (none_found e place is.duplicate)
      by_found (Some k) e = e ∙ ap (λ (j : ℕ). Some j) (one k (found_is_first k e))
