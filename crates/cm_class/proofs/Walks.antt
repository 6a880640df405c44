-- Walking over items one after another, as a loop does that keeps none of them.
-- For `many_members`, `many_numbers`, `slots`.
use Rattle.std.proofs.Common.{◌≡◌, Bool, true, false, ℕ, suc, ◌-◌, ◌+◌, ◌≤◌, ◌<◌, List, ◌∷◌, Result}
use Rattle.std.proofs.Common.{Ok, Err, refl, sym, ◌∙◌, arith}
use Rattle.cm_class.specs.declared.stop.Stop.{Stop}
use Rattle.cm_class.specs.declared.constant.Slot.{Slot}
use Rattle.cm_class.specs.declared.constant.Slot.TheVariants.{Usable, Unusable}
use Rattle.cm_class.specs.Spelling.{ClassConstant, is_wide}
use Rattle.cm_class.specs.Reading.{◌>>=◌, rest_of, made_at, many_at, constant_at, slots_at}
use Rattle.cm_class.proofs.Readers.{Read}

-- the bytes that are left, or where reading stops
abbrev pub Rest : Type 0
Rest = Result (List ℕ) Stop

-- what one reading and another after it leave
rest_first : {A B : Type 0} (read : Read A) (then : List ℕ → Read B) (make : A → B → B)
    → rest_of (read >>= λ x. then x.1 >>= λ y. Ok (make x.0 y.0, y.1))
    ≡ (rest_of read >>= λ bytes. rest_of (then bytes))
rest_first {B = B} (Ok x) then make = last (then x.1)
  where
    last : (read : Read B) → rest_of (read >>= λ y. Ok (make x.0 y.0, y.1)) ≡ rest_of read
    last (Ok y) = refl
    last (Err stop) = refl
rest_first (Err stop) then make = refl

module _ {A : Type 0} (item : List ℕ → Read A) where
  next : (count i : ℕ) (bytes : List ℕ) → i < count
      → rest_of (many_at item (count - i) bytes)
      ≡ (rest_of (item bytes) >>= λ after. rest_of (many_at item (count - (i + 1)) after))
  unfolding many_at
  next count i bytes lt =
      let k : count - i ≡ suc (count - (i + 1)) = omega arith in
      rw k (rest_first (item bytes) (many_at item (count - (i + 1))) (λ a items. a ∷ items))

  pub walk_on : (count i : ℕ) (bytes after : List ℕ) (total : Rest) → i < count
      → rest_of (item bytes) ≡ Ok after
      → rest_of (many_at item (count - i) bytes) ≡ total
      → rest_of (many_at item (count - (i + 1)) after) ≡ total
  walk_on count i bytes after total lt h so_far =
      let one : rest_of (many_at item (count - i) bytes)
      ≡ rest_of (many_at item (count - (i + 1)) after) = next count i bytes lt ∙ rw h refl in
      sym one ∙ so_far

  pub walk_stops : (stop : Stop) (count i : ℕ) (bytes : List ℕ) (total : Rest) → i < count
      → rest_of (item bytes) ≡ Err stop
      → rest_of (many_at item (count - i) bytes) ≡ total → total ≡ Err stop
  walk_stops stop count i bytes total lt h so_far =
      let one : rest_of (many_at item (count - i) bytes) ≡ Err stop =
      next count i bytes lt ∙ rw h refl in
      sym so_far ∙ one

  pub walk_done : (count i : ℕ) (bytes : List ℕ) (total : Rest) → count ≤ i
      → rest_of (many_at item (count - i) bytes) ≡ total → total ≡ Ok bytes
  unfolding many_at
  walk_done count i bytes total le so_far =
      let k : count - i ≡ 0 = omega arith in
      let one : rest_of (many_at item (count - i) bytes) ≡ Ok bytes = rw k refl in
      sym so_far ∙ one

-- ---- slots

abbrev with_wide : Read ClassConstant → Read Bool
with_wide read = read >>= λ c. Ok (is_wide c.0, c.1)

pub walk_second : (count i : ℕ) (bytes : List ℕ) (total : Rest) → i < count
    → rest_of (slots_at true (count - i) bytes) ≡ total
    → rest_of (slots_at false (count - (i + 1)) bytes) ≡ total
unfolding slots_at
walk_second count i bytes total lt so_far =
    let k : count - i ≡ suc (count - (i + 1)) = omega arith in
    let one : rest_of (slots_at true (count - i) bytes)
    ≡ rest_of (slots_at false (count - (i + 1)) bytes) =
    rw k (same_rest (slots_at false (count - (i + 1)) bytes)) in
    sym one ∙ so_far
  where
    same_rest : (read : Read (List Slot))
        → rest_of (read >>= λ x. Ok (Unusable ∷ x.0, x.1)) ≡ rest_of read
    same_rest (Ok x) = refl
    same_rest (Err stop) = refl

-- what a constant and the slots after it leave
after_usable : (read : Read ClassConstant) (left : ℕ)
    → rest_of (read >>= λ c. slots_at (is_wide c.0) left c.1 >>= λ x. Ok (Usable c.0 ∷ x.0, x.1))
    ≡ (with_wide read >>= λ x. rest_of (slots_at x.0 left x.1))
after_usable (Ok c) left = same_rest (slots_at (is_wide c.0) left c.1)
  where
    same_rest : (read : Read (List Slot))
        → rest_of (read >>= λ x. Ok (Usable c.0 ∷ x.0, x.1)) ≡ rest_of read
    same_rest (Ok x) = refl
    same_rest (Err stop) = refl
after_usable (Err stop) left = refl

next_usable : (count i : ℕ) (bytes : List ℕ) → i < count
    → rest_of (slots_at false (count - i) bytes)
    ≡ (made_at is_wide (constant_at (count - i)) bytes >>= λ x.
    rest_of (slots_at x.0 (count - (i + 1)) x.1))
unfolding slots_at
next_usable count i bytes lt =
    let k : count - i ≡ suc (count - (i + 1)) = omega arith in
    rw k (after_usable (constant_at (suc (count - (i + 1))) bytes) (count - (i + 1)))

pub walk_usable : (count i : ℕ) (bytes : List ℕ) (wide : Bool) (after : List ℕ) (total : Rest)
    → i < count → made_at is_wide (constant_at (count - i)) bytes ≡ Ok (wide, after)
    → rest_of (slots_at false (count - i) bytes) ≡ total
    → rest_of (slots_at wide (count - (i + 1)) after) ≡ total
walk_usable count i bytes wide after total lt h so_far =
    let one : rest_of (slots_at false (count - i) bytes)
    ≡ rest_of (slots_at wide (count - (i + 1)) after) =
    next_usable count i bytes lt ∙ rw h refl in
    sym one ∙ so_far

pub slots_stop : (stop : Stop) (count i : ℕ) (bytes : List ℕ) (total : Rest) → i < count
    → made_at is_wide (constant_at (count - i)) bytes ≡ Err stop
    → rest_of (slots_at false (count - i) bytes) ≡ total → total ≡ Err stop
slots_stop stop count i bytes total lt h so_far =
    let one : rest_of (slots_at false (count - i) bytes) ≡ Err stop =
    next_usable count i bytes lt ∙ rw h refl in
    sym so_far ∙ one

pub slots_walked : (count i : ℕ) (second : Bool) (bytes : List ℕ) (total : Rest) → count ≤ i
    → rest_of (slots_at second (count - i) bytes) ≡ total → total ≡ Ok bytes
unfolding slots_at
slots_walked count i second bytes total le so_far =
    let k : count - i ≡ 0 = omega arith in
    let one : rest_of (slots_at second (count - i) bytes) ≡ Ok bytes = rw k (none second) in
    sym so_far ∙ one
  where
    none : (w : Bool) → rest_of (slots_at w 0 bytes) ≡ Ok bytes
    none true = refl
    none false = refl
