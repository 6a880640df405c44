-- A list that is copied into zeros is followed by zeros.
-- For `SlotName::new`, `SlotName::rest`, `LoaderNumbers::new`.
use Rattle.std.proofs.Common.{◌≡◌, ◌≤◌, ℕ, ◌+◌, ◌-◌, length, List, [], ◌++◌, replicate, take, drop}
use Rattle.std.proofs.Common.{sym, ap, ◌∙◌, arith, append-nil, length-append, length-drop}
use Rattle.std.proofs.Common.{length-take-le}
use Rattle.std.proofs.lemmas.List.{length-replicate, take_at, take-append-drop}
use Rattle.std.proofs.Math.ListN.{drop_of_length-le}

pub zeros_behind : (room : ℕ) (xs zs : List ℕ) (n : ℕ) → length xs ≡ n → zs ≡ replicate (room - n) 0
    → xs ++ zs ≡ take n (xs ++ zs) ++ replicate (room - n) 0
zeros_behind room xs zs n len is =
    rw (take_at xs zs n len) (ap (λ (t : List ℕ). xs ++ t) is)

pub whole : (room : ℕ) (xs zs : List ℕ) (n : ℕ) → length xs ≡ n → zs ≡ replicate (room - n) 0
    → n ≤ room
    → length (xs ++ zs) ≡ room
whole room xs zs n len is fits =
    omega (
      arith,
      length-append xs zs,
      len,
      ap length is,
      length-replicate {A = ℕ} (room - n) 0,
      fits,
    )

-- a name that is kept in zeros, seen with them
pub padded-is : (bytes name : List ℕ) (n : ℕ) → take n bytes ≡ name → n ≤ 96 → length bytes ≡ 96
    → bytes ≡ take n bytes ++ replicate (96 - n) 0
    → bytes ≡ name ++ replicate (96 - length name) 0
padded-is bytes name n is fits count whole =
    let long : n ≡ length name =
    sym (length-take-le n bytes (omega (arith, fits, count))) ∙ ap length is in
    whole ∙ (λ i. is i ++ replicate (96 - long i) 0)

-- what there is from a place on is all that is left
pub all_left : (a k : ℕ) (xs : List ℕ) → length xs ≡ a + k → take k (drop a xs) ≡ drop a xs
all_left a k xs count =
    let none : drop k (drop a xs) ≡ [] =
    drop_of_length-le (drop a xs) {i = k} (omega (arith, length-drop a xs, count)) in
    sym (append-nil (take k (drop a xs))) ∙ ap (λ (l : List ℕ). take k (drop a xs) ++ l) (sym none)
    ∙ take-append-drop k (drop a xs)
