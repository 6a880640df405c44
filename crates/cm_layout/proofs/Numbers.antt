-- Numbers that are written one after another are read back.
-- For `UnloadAll::at_its_places`.
use Rattle.std.proofs.Common.{◌≡◌, ℕ, zero, suc, ◌*◌, ◌-◌, ◌<◌, ◌≤◌, ◌^◌, List, [], ◌∷◌, ◌++◌}
use Rattle.std.proofs.Common.{length, take, drop, get_or, refl, sym, ap, ◌∙◌, arith}
use Rattle.std.proofs.Common.{length-append}
use Rattle.std.specs.List.{flat_map, AllByRecursion}
use Rattle.std.specs.Int.{w64, to_le_bytes}
use Rattle.std.proofs.lemmas.List.{drop-drop, take_at, length-replicate}
use Rattle.std.proofs.lemmas.Grind.{same_number_lists}
use Rattle.byteorder.specs.Endian.{little_number, IsRead}
use Rattle.byteorder.specs.Numbers.{little_number-reads_back}
use Rattle.cm_layout.specs.Zeros.{zeros}

abbrev AreSmall : List ℕ → Type 0
AreSmall us = AllByRecursion (λ u. u < 2 ^ 64) us

-- each number has eight bytes
numbers_count : (us : List ℕ) → length (flat_map (to_le_bytes w64) us) ≡ 8 * length us
numbers_count [] = refl
numbers_count (u ∷ us) =
    omega (
      arith,
      length-append (to_le_bytes w64 u) (flat_map (to_le_bytes w64) us),
      numbers_count us,
    )

-- as many bytes as there is room for numbers
pub padded-count : (us : List ℕ) (room : ℕ) → length us ≤ room
    → length (flat_map (to_le_bytes w64) (us ++ zeros (room - length us))) ≡ 8 * room
padded-count us room few =
    omega (
      arith,
      numbers_count (us ++ zeros (room - length us)),
      length-append us (zeros (room - length us)),
      length-replicate {A = ℕ} (room - length us) 0,
      few,
    )

number-at : (us : List ℕ) (k : ℕ) → AreSmall us → k < length us
    → little_number 8 (drop (8 * k) (flat_map (to_le_bytes w64) us)) ≡ get_or us k 0
number-at [] k small in_it = absurd (omega (arith, in_it))
number-at (u ∷ us) zero small in_it =
    little_number-reads_back 8 u (flat_map (to_le_bytes w64) us) small.0
number-at (u ∷ us) (suc k) small in_it =
    let all = flat_map (to_le_bytes w64) (u ∷ us) in
    let behind : drop (8 * suc k) all ≡ drop (8 * k) (flat_map (to_le_bytes w64) us) =
    ap (λ (n : ℕ). drop n all) (omega arith) ∙ sym (drop-drop (8 * k) 8 all) in
    ap (little_number 8) behind ∙ number-at us k small.1 (omega (arith, in_it))

zeros-small : (n : ℕ) → AreSmall (zeros n)
zeros-small zero = tt
zeros-small (suc n) = (omega arith, zeros-small n)

append-small : (us vs : List ℕ) → AreSmall us → AreSmall vs → AreSmall (us ++ vs)
append-small [] vs su sv = sv
append-small (u ∷ us) vs su sv = (su.0, append-small us vs su.1 sv)

-- the numbers are read back from a field with room for more, filled up with zeros
pub numbers-back : (us numbers : List ℕ) (room : ℕ) → AreSmall us → length us ≤ room
    → length numbers ≡ room
    → IsRead little_number 8 (flat_map (to_le_bytes w64) (us ++ zeros (room - length us))) numbers
    → take (length us) numbers ≡ us
numbers-back us numbers room small few count is =
    let padded = us ++ zeros (room - length us) in
    let as_many : length numbers ≡ length padded =
    omega (
      arith,
      few,
      count,
      length-append us (zeros (room - length us)),
      length-replicate {A = ℕ} (room - length us) 0,
    ) in
    let all_small = append-small us (zeros (room - length us)) small
    (zeros-small (room - length us)) in
    let same : numbers ≡ padded =
    same_number_lists numbers padded as_many (λ k in_it. is k in_it ∙ number-at padded k all_small
    (omega (arith, in_it, as_many))) in
    ap (take (length us)) same ∙ take_at us (zeros (room - length us)) (length us) refl
