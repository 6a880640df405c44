-- One slot, or two, in the bytes that two have.
-- For `Slots::one`, `Slots::two`.
use Rattle.std.proofs.Common.{◌≡◌, ◌≤◌, ℕ, ◌-◌, length, List, [], ◌++◌, take, drop, sym, ap, ◌∙◌}
use Rattle.std.proofs.Common.{arith, length-append, append-nil}
use Rattle.std.proofs.lemmas.List.{take_at, drop_at, take-append-drop}
use Rattle.std.proofs.Math.ListN.{drop_of_length-le}
use Rattle.cm_layout.specs.Zeros.{zeros}

-- this many bytes are used, and the others are zeros
abbrev pub AreSlots : List ℕ → ℕ → Type 0
AreSlots bytes len =
    (len ≤ 128) × (length bytes ≡ 128) × (bytes ≡ take len bytes ++ zeros (128 - len))

pub of_one : (slot behind bytes : List ℕ) → length slot ≡ 64 → behind ≡ zeros 64
    → bytes ≡ slot ++ behind → AreSlots bytes 64 × (take 64 bytes ≡ slot)
of_one slot behind bytes one rest is =
    let front : take 64 bytes ≡ slot = ap (take 64) is ∙ take_at slot behind 64 one in
    let count = length-append slot behind in (
      (
        omega arith,
        omega (arith, ap length is, count, one, ap length rest),
        is ∙ (λ i. sym front i ++ rest i),
      ),
      front,
    )

pub of_two : (first second bytes : List ℕ) → length first ≡ 64 → length second ≡ 64
    → bytes ≡ first ++ second → AreSlots bytes 128 × (take 128 bytes ≡ first ++ second)
of_two first second bytes one other is =
    let count : length bytes ≡ 128 =
    omega (arith, ap length is, length-append first second, one, other) in
    let none : drop 128 bytes ≡ [] = drop_of_length-le bytes {i = 128} (omega (arith, count)) in
    let all : take 128 bytes ≡ bytes =
    sym (append-nil (take 128 bytes)) ∙ ap (λ l. take 128 bytes ++ l) (sym none)
    ∙ take-append-drop 128 bytes in (
      (omega arith, count, sym all ∙ sym (append-nil (take 128 bytes))),
      all ∙ is,
    )

-- a second part, if the first, of as many bytes, has been put before zeros
pub put_second : (n : ℕ) (first second front behind : List ℕ) → length first ≡ n → front ≡ first
    → length behind ≡ n
    → take n (front ++ behind) ++ (second ++ drop n (drop n (front ++ behind)))
    ≡ first ++ second
put_second n first second front behind one is count =
    let size : length front ≡ n = ap length is ∙ one in
    let none : drop n (drop n (front ++ behind)) ≡ [] =
    ap (drop n) (drop_at front behind n size)
    ∙ drop_of_length-le behind {i = n} (omega (arith, count)) in
    (λ i. (take_at front behind n size ∙ is) i ++ (second ++ none i))
    ∙ ap (λ l. first ++ l) (append-nil second)
