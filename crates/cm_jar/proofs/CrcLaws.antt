-- On `shifts`: shifting is linear, so the eight shifts of a byte are one table lookup.
use Rattle.std.proofs.Common.{◌≡◌, ℕ, zero, suc, ◌+◌, ◌*◌, ◌/◌, ◌%◌, ◌^◌, ◌<◌, ◌≤◌, refl, sym}
use Rattle.std.proofs.Common.{◌∙◌, ap, arith, get_or, mul_assoc, add-zero, add-one}
use Rattle.std.specs.Prelude.{bit_xor, List, [], ◌∷◌, drop, length, Bool, true, ◌==◌, ◌&&◌, false}
use Rattle.std.specs.Prelude.{if◌then◌else◌}
use Rattle.std.specs.Int.Bits.{xor_assoc, xor_self, xor_zero_l, xor_zero_r}
use Rattle.std.proofs.lemmas.Nat.{xor_comm, xor_shr, xor_mod, xor_block, mod_below}
use Rattle.std.proofs.Math.Nat.{pow-suc}
use Rattle.std.proofs.lemmas.List.{at_drop_all}
use Rattle.std.proofs.lemmas.Bool.{eqb-true}
use Rattle.std.proofs.Math.Seq.{drop-cons}
use Rattle.cm_jar.specs.Crc.{shift, shifts, register_after, are_shifts_from, polynomial}

-- what a shift adds to the half of the register, given the bit that left it
abbrev added : ℕ → ℕ → ℕ → ℕ
added p bit half = if bit == 0 then half else bit_xor half p

added-xor : (p i j a b : ℕ) → i < 2 → j < 2
    → added p (bit_xor i j) (bit_xor a b) ≡ bit_xor (added p i a) (added p j b)
added-xor p zero zero a b _ _ = refl
added-xor p zero (suc zero) a b _ _ = xor_assoc a b p
added-xor p (suc zero) zero a b _ _ =
    xor_assoc a b p ∙ ap (bit_xor a) (xor_comm b p) ∙ sym (xor_assoc a p b)
added-xor p (suc zero) (suc zero) a b _ _ =
    sym (xor_assoc a p (bit_xor b p)
    ∙ ap (bit_xor a) (ap (bit_xor p) (xor_comm b p) ∙ sym (xor_assoc p p b)
    ∙ ap (λ (x : ℕ). bit_xor x b) (xor_self p) ∙ xor_zero_l b))
added-xor p zero (suc (suc j)) a b _ h = absurd (omega (arith, h))
added-xor p (suc zero) (suc (suc j)) a b _ h = absurd (omega (arith, h))
added-xor p (suc (suc i)) j a b h _ = absurd (omega (arith, h))

shift-even : (y : ℕ) → shift (y * 2) ≡ y
shift-even y =
    let even : y * 2 % 2 ≡ 0 = omega arith in
    let half : y * 2 / 2 ≡ y = omega arith in
    ap (λ (bit : ℕ). added polynomial bit (y * 2 / 2)) even ∙ half

shift-xor : (a b : ℕ) → shift (bit_xor a b) ≡ bit_xor (shift a) (shift b)
shift-xor a b =
    ap (λ (bit : ℕ). added polynomial bit (bit_xor a b / 2)) (xor_mod a b 1)
    ∙ ap (added polynomial (bit_xor (a % 2) (b % 2))) (xor_shr a b 1)
    ∙ added-xor polynomial (a % 2) (b % 2) (a / 2) (b / 2) (omega arith) (omega arith)

shifts-xor : (n a b : ℕ) → shifts n (bit_xor a b) ≡ bit_xor (shifts n a) (shifts n b)
unfolding shifts
shifts-xor zero a b = refl
shifts-xor (suc n) a b = ap (shifts n) (shift-xor a b) ∙ shifts-xor n (shift a) (shift b)

shifts-low_zeros : (n y : ℕ) → shifts n (y * 2 ^ n) ≡ y
unfolding shifts
shifts-low_zeros zero y = omega arith
shifts-low_zeros (suc n) y =
    let even : y * 2 ^ suc n ≡ y * 2 ^ n * 2 = rw (pow-suc 2 n) (sym (mul_assoc y (2 ^ n) 2)) in
    ap (λ (x : ℕ). shifts n (shift x)) even
    ∙ ap (shifts n) (shift-even (y * 2 ^ n)) ∙ shifts-low_zeros n y

halves : (x : ℕ) → bit_xor (x % 256) (x / 256 * 256) ≡ x
halves x =
    let low : x % 256 < 2 ^ 8 = mod_below x 256 (omega arith) in
    let none : 0 < 2 ^ 8 = omega arith in
    let left : x % 256 ≡ 0 * 2 ^ 8 + x % 256 = omega arith in
    let right : x / 256 * 256 ≡ x / 256 * 2 ^ 8 + 0 = omega arith in
    let whole : x / 256 * 2 ^ 8 + x % 256 ≡ x = omega arith in
    ap (λ (a : ℕ). bit_xor a (x / 256 * 256)) left ∙ ap (bit_xor (0 * 2 ^ 8 + x % 256)) right
    ∙ xor_block 8 0 (x / 256) (x % 256) 0 low none
    ∙ ap (λ (a : ℕ). a * 2 ^ 8 + bit_xor (x % 256) 0) (xor_zero_l (x / 256))
    ∙ ap (λ (a : ℕ). x / 256 * 2 ^ 8 + a) (xor_zero_r (x % 256)) ∙ whole

-- the register's low byte and the other bytes are shifted separately
pub shifts-8 : (x : ℕ) → shifts 8 x ≡ bit_xor (shifts 8 (x % 256)) (x / 256)
shifts-8 x =
    ap (shifts 8) (sym (halves x)) ∙ shifts-xor 8 (x % 256) (x / 256 * 256)
    ∙ ap (bit_xor (shifts 8 (x % 256))) (shifts-low_zeros 8 (x / 256))

both_hold : (a b : Bool) → (a && b) ≡ true → (a ≡ true) × (b ≡ true)
both_hold true b h = (refl, h)
both_hold false b h = absurd cc

pub shifts_in_table : (xs : List ℕ) (byte k : ℕ) → are_shifts_from byte xs ≡ true → k < length xs
    → get_or xs k 0 ≡ shifts 8 (byte + k)
unfolding are_shifts_from
shifts_in_table [] byte k are h = absurd (omega (arith, h))
shifts_in_table (x ∷ xs) byte zero are h =
    rw add-zero (eqb-true x (shifts 8 byte) (both_hold _ _ are).0)
shifts_in_table (x ∷ xs) byte (suc k) are h =
    let e : byte + suc k ≡ suc byte + k = omega arith in
    rw e (shifts_in_table xs (suc byte) k (both_hold _ _ are).1 (omega (arith, h)))

pub register_goes_on : (bytes : List ℕ) (k r : ℕ) → k < length bytes
    → register_after (drop k bytes) r
    ≡ register_after (drop (k + 1) bytes) (shifts 8 (bit_xor r (get_or bytes k 0)))
unfolding register_after
register_goes_on bytes k r h =
    rw (add-one, drop-cons bytes k 0 h) refl

pub register_at_end : (bytes : List ℕ) (k r : ℕ) → length bytes ≤ k
    → register_after (drop k bytes) r ≡ r
unfolding register_after
register_at_end bytes k r h = at_drop_all (λ bs. register_after bs r) bytes k h
