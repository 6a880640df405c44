-- Reading items one after another, as a loop does.
-- For `skip_heading`.
use Rattle.std.proofs.Common.{◌≡◌, Bool, true, false, ℕ, suc, ◌-◌, ◌+◌, ◌≤◌, ◌<◌, List, [], ◌∷◌}
use Rattle.std.proofs.Common.{◌++◌, length, get_or, drop, Result, Ok, Err, refl, sym, ap, ◌∙◌}
use Rattle.std.proofs.Common.{append_assoc, add-one, drop-cons, arith}
use Rattle.std.proofs.lemmas.List.{append-nil, drop_all}
use Rattle.cm_class.specs.declared.stop.Stop.{Stop}
use Rattle.cm_class.specs.declared.stop.Stop.TheVariants.{Short, Bad, NoMemory}
use Rattle.cm_class.specs.declared.constant.Slot.{Slot}
use Rattle.cm_class.specs.declared.constant.Slot.TheVariants.{Usable, Unusable}
use Rattle.cm_class.specs.Spelling.{ClassConstant, is_wide}
use Rattle.cm_class.specs.Reading.{◌>>=◌, Fails, many_at, literal_at, expected_at, constant_at}
use Rattle.cm_class.specs.Reading.{slots_at}
use Rattle.cm_class.proofs.Readers.{Read}

-- what was read before, and what is still to be read
abbrev pub with_front : {A : Type 0} → List A → Read (List A) → Read (List A)
with_front front read = read >>= λ x. Ok (front ++ x.0, x.1)

pub regroup : {A : Type 0} (front : List A) (a : A) (read : Read (List A))
    → with_front front (read >>= λ x. Ok (a ∷ x.0, x.1)) ≡ with_front (front ++ a ∷ []) read
regroup front a (Ok x) = ap (λ items. Ok (items, x.1)) (simp append_assoc)
regroup front a (Err stop) = refl

-- if the first part fails, reading fails in the same way
pub fails_first : {A B : Type 0} (stop : Stop) (read : Result A Stop) (then : A → Result B Stop)
    → Fails stop read → Fails stop (read >>= then)
fails_first Short read then h = rw h refl
fails_first (Bad left) read then h = rw h refl
fails_first NoMemory read then h = tt

pub fails_equal : {A : Type 0} (stop : Stop) (x y : Result A Stop) → x ≡ y → Fails stop x
    → Fails stop y
fails_equal Short x y e h = sym e ∙ h
fails_equal (Bad left) x y e h = sym e ∙ h
fails_equal NoMemory x y e h = tt

-- a stop that isn't a failed allocation is exactly the stop of reading
pub fails_exactly : {A : Type 0} (stop : Stop) (read : Result A Stop) → read ≡ Err stop
    → Fails stop read
fails_exactly Short read h = h
fails_exactly (Bad left) read h = h
fails_exactly NoMemory read h = tt

module _ {A : Type 0} (item : List ℕ → Read A) where
  pub goes_on : (front : List A) (count i : ℕ) (bytes : List ℕ) (a : A) (after : List ℕ)
      (total : Read (List A)) → i < count → item bytes ≡ Ok (a, after)
      → with_front front (many_at item (count - i) bytes) ≡ total
      → with_front (front ++ a ∷ []) (many_at item (count - (i + 1)) after) ≡ total
  unfolding many_at
  goes_on front count i bytes a after total lt h so_far =
      let k : count - i ≡ suc (count - (i + 1)) = omega arith in
      let one : with_front front (many_at item (count - i) bytes)
      ≡ with_front (front ++ a ∷ []) (many_at item (count - (i + 1)) after) =
      rw (k, h) (regroup front a (many_at item (count - (i + 1)) after)) in
      sym one ∙ so_far

  pub ends : (stop : Stop) (front : List A) (count i : ℕ) (bytes : List ℕ) (total : Read (List A))
      → i < count → Fails stop (item bytes)
      → with_front front (many_at item (count - i) bytes) ≡ total → Fails stop total
  unfolding many_at
  ends stop front count i bytes total lt h so_far =
      let k : count - i ≡ suc (count - (i + 1)) = omega arith in
      let split : many_at item (count - i) bytes
      ≡ (item bytes >>= λ first. many_at item (count - (i + 1)) first.1 >>= λ others.
      Ok (first.0 ∷ others.0, others.1)) = rw k refl in
      fails_equal stop (with_front front (many_at item (count - i) bytes)) total so_far
      (fails_first stop (many_at item (count - i) bytes) (λ x. Ok (front ++ x.0, x.1))
      (fails_equal stop
      (item bytes >>= λ first. many_at item (count - (i + 1)) first.1 >>= λ others.
      Ok (first.0 ∷ others.0, others.1)) (many_at item (count - i) bytes) (sym split)
      (fails_first stop (item bytes)
      (λ first. many_at item (count - (i + 1)) first.1 >>= λ others.
      Ok (first.0 ∷ others.0, others.1)) h)))

  pub is_done : (front : List A) (count i : ℕ) (bytes : List ℕ) (total : Read (List A)) → count ≤ i
      → with_front front (many_at item (count - i) bytes) ≡ total → total ≡ Ok (front, bytes)
  unfolding many_at
  is_done front count i bytes total le so_far =
      let k : count - i ≡ 0 = omega arith in
      let one : with_front front (many_at item (count - i) bytes) ≡ Ok (front, bytes) =
      rw k (ap (λ items. Ok (items, bytes)) (append-nil front)) in
      sym so_far ∙ one

-- ---- fixed bytes

next_expected : (expected : List ℕ) (i : ℕ) (bytes : List ℕ) → i < length expected
    → expected_at (drop i expected) bytes
    ≡ (literal_at (get_or expected i 0) bytes >>= λ first.
    expected_at (drop (i + 1) expected) first.1)
unfolding expected_at
next_expected expected i bytes lt = rw (add-one, drop-cons expected i 0 lt) refl

pub expected_goes_on : (expected : List ℕ) (i : ℕ) (bytes rest : List ℕ) (total : Read (Unit {0}))
    → i < length expected → literal_at (get_or expected i 0) bytes ≡ Ok (tt, rest)
    → expected_at (drop i expected) bytes ≡ total → expected_at (drop (i + 1) expected) rest ≡ total
expected_goes_on expected i bytes rest total lt h so_far =
    let one : expected_at (drop i expected) bytes ≡ expected_at (drop (i + 1) expected) rest =
    next_expected expected i bytes lt ∙ rw h refl in
    sym one ∙ so_far

pub expected_ends : (stop : Stop) (expected : List ℕ) (i : ℕ) (bytes : List ℕ)
    (total : Read (Unit {0})) → i < length expected
    → literal_at (get_or expected i 0) bytes ≡ Err stop
    → expected_at (drop i expected) bytes ≡ total → total ≡ Err stop
expected_ends stop expected i bytes total lt h so_far =
    let one : expected_at (drop i expected) bytes ≡ Err stop =
    next_expected expected i bytes lt ∙ rw h refl in
    sym so_far ∙ one

pub expected_done : (expected : List ℕ) (i : ℕ) (bytes : List ℕ) (total : Read (Unit {0}))
    → length expected ≤ i → expected_at (drop i expected) bytes ≡ total → total ≡ Ok (tt, bytes)
unfolding expected_at
expected_done expected i bytes total le so_far =
    let nothing : drop i expected ≡ [] = drop_all i expected le in
    sym so_far ∙ rw nothing refl

-- ---- slots

pub slots_second : (front : List Slot) (count i : ℕ) (bytes : List ℕ) (total : Read (List Slot))
    → i < count
    → with_front front (slots_at true (count - i) bytes) ≡ total
    → with_front (front ++ Unusable ∷ []) (slots_at false (count - (i + 1)) bytes) ≡ total
unfolding slots_at
slots_second front count i bytes total lt so_far =
    let k : count - i ≡ suc (count - (i + 1)) = omega arith in
    let one : with_front front (slots_at true (count - i) bytes)
    ≡ with_front (front ++ Unusable ∷ []) (slots_at false (count - (i + 1)) bytes) =
    rw k (regroup front Unusable (slots_at false (count - (i + 1)) bytes)) in
    sym one ∙ so_far

pub slots_usable : (front : List Slot) (count i : ℕ) (bytes : List ℕ) (c : ClassConstant)
    (after : List ℕ) (total : Read (List Slot)) → i < count
    → constant_at (count - i) bytes ≡ Ok (c, after)
    → with_front front (slots_at false (count - i) bytes) ≡ total
    → with_front (front ++ Usable c ∷ []) (slots_at (is_wide c) (count - (i + 1)) after) ≡ total
unfolding slots_at
slots_usable front count i bytes c after total lt h so_far =
    let k : count - i ≡ suc (count - (i + 1)) = omega arith in
    let h2 : constant_at (suc (count - (i + 1))) bytes ≡ Ok (c, after) =
    ap (λ n. constant_at n bytes) (sym k) ∙ h in
    let one : with_front front (slots_at false (count - i) bytes)
    ≡ with_front (front ++ Usable c ∷ []) (slots_at (is_wide c) (count - (i + 1)) after) =
    rw (k, h2) (regroup front (Usable c) (slots_at (is_wide c) (count - (i + 1)) after)) in
    sym one ∙ so_far

pub slots_end : (stop : Stop) (front : List Slot) (count i : ℕ) (bytes : List ℕ)
    (total : Read (List Slot)) → i < count → Fails stop (constant_at (count - i) bytes)
    → with_front front (slots_at false (count - i) bytes) ≡ total → Fails stop total
unfolding slots_at
slots_end stop front count i bytes total lt h so_far =
    let k : count - i ≡ suc (count - (i + 1)) = omega arith in
    let then : ClassConstant × List ℕ → Read (List Slot) =
    λ c. slots_at (is_wide c.0) (count - (i + 1)) c.1 >>= λ others.
    Ok (Usable c.0 ∷ others.0, others.1) in
    let split : slots_at false (count - i) bytes ≡ (constant_at (count - i) bytes >>= then) =
    rw k refl in
    fails_equal stop (with_front front (slots_at false (count - i) bytes)) total so_far
    (fails_first stop (slots_at false (count - i) bytes) (λ x. Ok (front ++ x.0, x.1))
    (fails_equal stop (constant_at (count - i) bytes >>= then) (slots_at false (count - i) bytes)
    (sym split) (fails_first stop (constant_at (count - i) bytes) then h)))

pub slots_done : (front : List Slot) (count i : ℕ) (second : Bool) (bytes : List ℕ)
    (total : Read (List Slot)) → count ≤ i
    → with_front front (slots_at second (count - i) bytes) ≡ total → total ≡ Ok (front, bytes)
unfolding slots_at
slots_done front count i second bytes total le so_far =
    let k : count - i ≡ 0 = omega arith in
    let one : with_front front (slots_at second (count - i) bytes) ≡ Ok (front, bytes) =
    rw k (none second) in
    sym so_far ∙ one
  where
    none : (w : Bool) → with_front front (slots_at w 0 bytes) ≡ Ok (front, bytes)
    none true = ap (λ items. Ok (items, bytes)) (append-nil front)
    none false = ap (λ items. Ok (items, bytes)) (append-nil front)
