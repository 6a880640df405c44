-- Numbers at the front of bytes.
-- For `read_u16`, `read_u32`, `read_u64`.
use Rattle.std.proofs.Common.{Fits, w8, w16, w32, w64, ◌≡◌, ◌<◌, ◌+◌, ℕ, zero, suc, List, [], ◌∷◌}
use Rattle.std.proofs.Common.{◌++◌, length, get_or, take, drop, sym, ap, subst, ◌∙◌, arith}
use Rattle.std.specs.Int.{from_be_bytes}
use Rattle.std.proofs.lemmas.List.{take-append-drop, length-take}
use Rattle.std.proofs.lemmas.Nat.{be_bytes_2, be_bytes_4, be_bytes_8}
use Rattle.cm_class.specs.Spelling.{u2, u4, u8, AreBytes}
use Rattle.cm_class.proofs.{AreBytes-at}

taken_bytes : (n : ℕ) (bytes : List ℕ) → ((i : ℕ) → Fits w8 (get_or bytes i 0))
    → AreBytes (take n bytes)
taken_bytes zero bytes fits = tt
taken_bytes (suc n) [] fits = tt
taken_bytes (suc n) (b ∷ bytes) fits =
    (omega (arith, fits 0), taken_bytes n bytes (λ i. fits (suc i)))

-- the first n bytes, and those after them
module _ (n : ℕ) (bytes front rest : List ℕ) (front_is : front ≡ take n bytes)
    (rest_is : rest ≡ drop n bytes) (enough : length rest + n ≡ length bytes)
    (fits : (i : ℕ) → Fits w8 (get_or bytes i 0)) where
  front_len : length front ≡ n
  front_len = omega (arith, ap length front_is, length-take n bytes)

  front_below : (i : ℕ) → get_or front i 0 < 256
  front_below i = subst (λ (l : List ℕ). get_or l i 0 < 256) (sym front_is)
      (AreBytes-at (take n bytes) (taken_bytes n bytes fits) i)

  joined : (spelled : List ℕ) → spelled ≡ front → bytes ≡ spelled ++ rest
  joined spelled e =
      sym (take-append-drop n bytes) ∙ ap (λ l. l ++ drop n bytes) (sym front_is ∙ sym e)
      ∙ ap (λ l. spelled ++ l) (sym rest_is)

pub front_2 : (bytes front rest : List ℕ) (v : ℕ) → front ≡ take 2 bytes → rest ≡ drop 2 bytes
    → length rest + 2 ≡ length bytes → ((i : ℕ) → Fits w8 (get_or bytes i 0))
    → v ≡ from_be_bytes w16 front → bytes ≡ u2 v ++ rest
front_2 bytes front rest v ef er len fits e =
    joined 2 bytes front rest ef er len fits (u2 v)
    (be_bytes_2 front v (front_len 2 bytes front rest ef er len fits)
    (front_below 2 bytes front rest ef er len fits) e)

pub front_4 : (bytes front rest : List ℕ) (v : ℕ) → front ≡ take 4 bytes → rest ≡ drop 4 bytes
    → length rest + 4 ≡ length bytes → ((i : ℕ) → Fits w8 (get_or bytes i 0))
    → v ≡ from_be_bytes w32 front → bytes ≡ u4 v ++ rest
front_4 bytes front rest v ef er len fits e =
    joined 4 bytes front rest ef er len fits (u4 v)
    (be_bytes_4 front v (front_len 4 bytes front rest ef er len fits)
    (front_below 4 bytes front rest ef er len fits) e)

pub front_8 : (bytes front rest : List ℕ) (v : ℕ) → front ≡ take 8 bytes → rest ≡ drop 8 bytes
    → length rest + 8 ≡ length bytes → ((i : ℕ) → Fits w8 (get_or bytes i 0))
    → v ≡ from_be_bytes w64 front → bytes ≡ u8 v ++ rest
front_8 bytes front rest v ef er len fits e =
    joined 8 bytes front rest ef er len fits (u8 v)
    (be_bytes_8 front v (front_len 8 bytes front rest ef er len fits)
    (front_below 8 bytes front rest ef er len fits) e)
