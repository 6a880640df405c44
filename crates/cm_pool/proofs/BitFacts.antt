-- One bit in a list of words, and what a summary says about it.
-- For `BitRow::first`, `BitRow::insert`, `BitRow::remove`, `lowest_bit`.
use Rattle.std.proofs.Common.{◌≡◌, ◌≢◌, ℕ, ◌+◌, ◌*◌, ◌/◌, ◌%◌, ◌^◌, ◌<◌, ◌≤◌, Bool, true, false}
use Rattle.std.proofs.Common.{not, ◌||◌, ◌&&◌, eqb, List, length, replicate, bit_and}
use Rattle.std.proofs.Common.{bit_or, refl, sym, ap, ◌∙◌, subst, inl, inr, arith, length-set, w64}
use Rattle.std.specs.Int.{bit_at, bit_not, trailing_zeros}
use Rattle.std.specs.Int.Bits.{and_zero_l}
use Rattle.std.proofs.lemmas.List.{get_or-set_same, get_or-set_other, get_or_past, get_or-replicate}
use Rattle.std.proofs.lemmas.List.{length-replicate}
use Rattle.std.proofs.lemmas.Nat.{one_shl}
use Rattle.std.proofs.lemmas.Nat.Bits.{bit_at-zero, bit_at_set_same, bit_at_set_other}
use Rattle.std.proofs.lemmas.Nat.Bits.{bit_at_clear_same, bit_at_clear_other, bit_at-trailing_zeros}
use Rattle.std.proofs.lemmas.Bool.{cases_eq, cases_lt, eq-eqb, ne_eqb, eqb-true, both_ways}
use Rattle.cm_pool.specs.Bits.{word, bit, with_bit, without_bit, IsFirstBit, IsFirstWord, IsSummary}
use Rattle.cm_pool.specs.Bits.{IsRow}

-- the word that changes, and the others
pub word-with : (ws : List ℕ) (i : ℕ) → i < 64 * length ws
    → word (with_bit ws i) (i / 64) ≡ bit_or (word ws (i / 64)) (2 ^ (i % 64))
word-with ws i h = get_or-set_same ws (i / 64) _ 0 (omega arith)

pub word-without : (ws : List ℕ) (i : ℕ) → i < 64 * length ws
    → word (without_bit ws i) (i / 64) ≡ bit_and (word ws (i / 64)) (bit_not w64 (2 ^ (i % 64)))
word-without ws i h = get_or-set_same ws (i / 64) _ 0 (omega arith)

pub other-with : (ws : List ℕ) (i k : ℕ) → k ≢ i / 64 → word (with_bit ws i) k ≡ word ws k
other-with ws i k other = get_or-set_other ws (i / 64) k _ 0 other

pub other-without : (ws : List ℕ) (i k : ℕ) → k ≢ i / 64 → word (without_bit ws i) k ≡ word ws k
other-without ws i k other = get_or-set_other ws (i / 64) k _ 0 other

-- the same within a word
in-with : (n k : ℕ) → k < 64 → bit_at (bit_or n (2 ^ k)) k ≡ 1
in-with n k h = ap (λ m. bit_at (bit_or n m) k) (sym (one_shl k 64 h)) ∙ bit_at_set_same w64 n k h

in-with_other : (n k i : ℕ) → k < 64 → i ≢ k → bit_at (bit_or n (2 ^ k)) i ≡ bit_at n i
in-with_other n k i h other = ap
    (λ m. bit_at (bit_or n m) i) (sym (one_shl k 64 h)) ∙ bit_at_set_other w64 n k h i other

in-without : (n k : ℕ) → k < 64 → bit_at (bit_and n (bit_not w64 (2 ^ k))) k ≡ 0
in-without n k h = ap
    (λ m. bit_at (bit_and n (bit_not w64 m)) k) (sym (one_shl k 64 h)) ∙ bit_at_clear_same w64 n k h

in-without_other : (n k i : ℕ) → k < 64 → i < 64 → i ≢ k
    → bit_at (bit_and n (bit_not w64 (2 ^ k))) i ≡ bit_at n i
in-without_other n k i h low other = ap
    (λ m. bit_at (bit_and n (bit_not w64 m)) i) (sym (one_shl k 64 h))
    ∙ bit_at_clear_other w64 n k h i low other

-- a bit after a change
pub bit-with_same : (ws : List ℕ) (i : ℕ) → i < 64 * length ws → bit (with_bit ws i) i ≡ true
bit-with_same ws i h = ap (λ n. eqb (bit_at n (i % 64)) 1) (word-with ws i h) ∙ ap
    (λ b. eqb b 1) (in-with (word ws (i / 64)) (i % 64) (omega arith))

pub bit-with_other : (ws : List ℕ) (i j : ℕ) → i < 64 * length ws → j ≢ i
    → bit (with_bit ws i) j ≡ bit ws j
bit-with_other ws i j h other =
    elim (cases_eq (j / 64) (i / 64)) [
      | inl same ↦
          let place : j % 64 ≢ i % 64 = λ e. other (omega arith) in
          ap (λ k. eqb (bit_at (word (with_bit ws i) k) (j % 64)) 1) same
          ∙ ap (λ n. eqb (bit_at n (j % 64)) 1) (word-with ws i h)
          ∙ ap (λ b. eqb b 1) (in-with_other (word ws (i / 64)) (i % 64) (j % 64)
          (omega arith) place)
          ∙ ap (λ k. eqb (bit_at (word ws k) (j % 64)) 1) (sym same)
      | inr apart ↦ ap (λ n. eqb (bit_at n (j % 64)) 1) (other-with ws i (j / 64) apart)
    ]

pub bit-without_same : (ws : List ℕ) (i : ℕ) → i < 64 * length ws → bit (without_bit ws i) i ≡ false
bit-without_same ws i h = ap (λ n. eqb (bit_at n (i % 64)) 1) (word-without ws i h) ∙ ap
    (λ b. eqb b 1) (in-without (word ws (i / 64)) (i % 64) (omega arith))

pub bit-without_other : (ws : List ℕ) (i j : ℕ) → i < 64 * length ws → j ≢ i
    → bit (without_bit ws i) j ≡ bit ws j
bit-without_other ws i j h other =
    elim (cases_eq (j / 64) (i / 64)) [
      | inl same ↦
          let place : j % 64 ≢ i % 64 = λ e. other (omega arith) in
          ap (λ k. eqb (bit_at (word (without_bit ws i) k) (j % 64)) 1) same
          ∙ ap (λ n. eqb (bit_at n (j % 64)) 1) (word-without ws i h)
          ∙ ap (λ b. eqb b 1) (in-without_other (word ws (i / 64)) (i % 64) (j % 64) (omega arith)
          (omega arith) place)
          ∙ ap (λ k. eqb (bit_at (word ws k) (j % 64)) 1) (sym same)
      | inr apart ↦ ap (λ n. eqb (bit_at n (j % 64)) 1) (other-without ws i (j / 64) apart)
    ]

-- the same as one equation
pub bit-with : (ws : List ℕ) (i j : ℕ) → i < 64 * length ws
    → bit (with_bit ws i) j ≡ (eqb j i || bit ws j)
bit-with ws i j h =
    elim (cases_eq j i) [
      | inl same ↦
          ap (bit (with_bit ws i)) same ∙ bit-with_same ws i h ∙ ap
          (λ b. b || bit ws j) (sym (eq-eqb j i same))
      | inr other ↦ bit-with_other ws i j h other ∙ ap (λ b. b || bit ws j) (sym (ne_eqb j i other))
    ]

pub bit-without : (ws : List ℕ) (i j : ℕ) → i < 64 * length ws
    → bit (without_bit ws i) j ≡ (not (eqb j i) && bit ws j)
bit-without ws i j h =
    elim (cases_eq j i) [
      | inl same ↦
          ap (bit (without_bit ws i)) same ∙ bit-without_same ws i h ∙ ap
          (λ b. not b && bit ws j) (sym (eq-eqb j i same))
      | inr other ↦ bit-without_other ws i j h other ∙ ap
          (λ b. not b && bit ws j) (sym (ne_eqb j i other))
    ]

-- if a word is 0, none of its bits is set
pub bit-zero_word : (ws : List ℕ) (i : ℕ) → word ws (i / 64) ≡ 0 → bit ws i ≡ false
bit-zero_word ws i e = ap (λ n. eqb (bit_at n (i % 64)) 1) e ∙ ap
    (λ b. eqb b 1) (bit_at-zero (i % 64))

pub bit-past : (ws : List ℕ) (i : ℕ) → 64 * length ws ≤ i → bit ws i ≡ false
bit-past ws i h = bit-zero_word ws i (get_or_past ws (i / 64) 0 (omega arith))

pub bit-within : (ws : List ℕ) (i : ℕ) → bit ws i ≡ true → i < 64 * length ws
bit-within ws i e =
    elim (cases_lt i (64 * length ws)) [
      | inl lt ↦ lt
      | inr ge ↦ absurd (both_ways _ (bit-past ws i ge) e)
    ]

pub bit-replicate : (n i : ℕ) → bit (replicate n 0) i ≡ false
bit-replicate n i =
    bit-zero_word (replicate n 0) i (elim (cases_lt (i / 64) n) [
      | inl lt ↦ get_or-replicate n (i / 64) 0 0 lt
      | inr ge ↦ get_or_past (replicate n 0) (i / 64) 0
          (omega (arith, length-replicate n (◌+◌ 0 0)))
    ])

-- a word with a bit isn't 0
with-some : (n k : ℕ) → k < 64 → bit_or n (2 ^ k) ≢ 0
with-some n k h e =
    let one : bit_at (bit_or n (2 ^ k)) k ≡ 1 = in-with n k h in
    let none : bit_at (bit_or n (2 ^ k)) k ≡ 0 = ap (λ m. bit_at m k) e ∙ bit_at-zero k in
    absurd (omega (arith, one, none))

-- a summary remains one if the same bit is set above
pub summary-with : (ws up : List ℕ) (i : ℕ) → IsSummary ws up → i < 64 * length ws
    → IsSummary (with_bit ws i) (with_bit up (i / 64))
summary-with ws up i h within =
    let k = i / 64 in
    let above : k < 64 * length up = omega (arith, h.long) in
    record {
      long = omega (
        arith,
        h.long,
        length-set ws k (bit_or (word ws k) (2 ^ (i % 64))),
        length-set up (k / 64) (bit_or (word up (k / 64)) (2 ^ (k % 64))),
      );
      each = λ j. elim (cases_eq j k) [
        | inl same ↦
            ap (bit (with_bit up k)) same ∙ bit-with_same up k above
            ∙ sym (ap (λ n. not (eqb n 0)) (ap (word (with_bit ws i)) same ∙ word-with ws i within)
            ∙ ap not (ne_eqb _ 0 (with-some (word ws k) (i % 64) (omega arith))))
        | inr other ↦ bit-with_other up k j above other ∙ h.each j ∙ sym (ap
            (λ n. not (eqb n 0)) (other-with ws i j other))
      ];
    }

-- a summary remains one if a word's last bit is cleared, with its bit above
pub summary-without : (ws up : List ℕ) (i : ℕ) → IsSummary ws up → i < 64 * length ws
    → word (without_bit ws i) (i / 64) ≡ 0 → IsSummary (without_bit ws i) (without_bit up (i / 64))
summary-without ws up i h within none =
    let k = i / 64 in
    let above : k < 64 * length up = omega (arith, h.long) in
    record {
      long = omega (
        arith,
        h.long,
        length-set ws k (bit_and (word ws k) (bit_not w64 (2 ^ (i % 64)))),
        length-set up (k / 64) (bit_and (word up (k / 64)) (bit_not w64 (2 ^ (k % 64)))),
      );
      each = λ j. elim (cases_eq j k) [
        | inl same ↦
            ap (bit (without_bit up k)) same ∙ bit-without_same up k above
            ∙ sym (ap (λ n. not (eqb n 0)) (ap (word (without_bit ws i)) same ∙ none))
        | inr other ↦ bit-without_other up k j above other ∙ h.each j ∙ sym (ap
            (λ n. not (eqb n 0)) (other-without ws i j other))
      ];
    }

-- if other bits are left in the word, nothing changes above
pub summary-left : (ws up : List ℕ) (i : ℕ) → IsSummary ws up → i < 64 * length ws
    → word (without_bit ws i) (i / 64) ≢ 0 → IsSummary (without_bit ws i) up
summary-left ws up i h within some =
    let k = i / 64 in
    let was : word ws k ≢ 0 = λ e. some (word-without ws i within ∙ ap
    (λ n. bit_and n (bit_not w64 (2 ^ (i % 64)))) e ∙ and_zero_l (bit_not w64 (2 ^ (i % 64)))) in
    record {
      long = omega (
        arith,
        h.long,
        length-set ws k (bit_and (word ws k) (bit_not w64 (2 ^ (i % 64)))),
      );
      each = λ j. elim (cases_eq j k) [
        | inl same ↦
            h.each j
            ∙ ap (λ n. not (eqb n 0)) (ap (word ws) same) ∙ ap not (ne_eqb (word ws k) 0 was)
            ∙ sym (ap (λ n. not (eqb n 0)) (ap (word (without_bit ws i)) same)
            ∙ ap not (ne_eqb _ 0 some))
        | inr other ↦ h.each j ∙ sym (ap (λ n. not (eqb n 0)) (other-without ws i j other))
      ];
    }

-- the first bit above determines the first word
pub first-word : (ws up : List ℕ) (k : ℕ) → IsSummary ws up → IsFirstBit up k → IsFirstWord ws k
first-word ws up k h f =
    let some : word ws k ≢ 0 = λ e. both_ways _ (h.each k ∙ ap (λ n. not (eqb n 0)) e) f.is_set in
    record {
      within = elim (cases_lt k (length ws)) [
        | inl lt ↦ lt
        | inr ge ↦ absurd (some (get_or_past ws k 0 ge))
      ];
      some = omega (arith, some);
      first = λ j lt. none (word ws j) (sym (h.each j) ∙ f.first j lt);
    }
  where
    none : (n : ℕ) → not (eqb n 0) ≡ false → n ≡ 0
    none n e = eqb-true n 0 (turn (eqb n 0) e)
      where
        turn : (b : Bool) → not b ≡ false → b ≡ true
        turn true e = refl
        turn false e = sym e

-- if no bit is set above, none is set below
pub no-bits : (ws up : List ℕ) → IsSummary ws up → ((k : ℕ) → word up k ≡ 0) → (k : ℕ)
    → word ws k ≡ 0
no-bits ws up h none k = is_zero (word ws k) (sym (h.each k) ∙ bit-zero_word up k (none (k / 64)))
  where
    turn : (b : Bool) → not b ≡ false → b ≡ true
    turn true e = refl
    turn false e = sym e

    is_zero : (n : ℕ) → not (eqb n 0) ≡ false → n ≡ 0
    is_zero n e = eqb-true n 0 (turn (eqb n 0) e)

-- the lowest bit of the first word is the first bit
pub lowest-first : (ws : List ℕ) (k n : ℕ) → IsFirstWord ws k → word ws k ≡ n → n < 2 ^ 64
    → IsFirstBit ws (64 * k + trailing_zeros w64 n)
lowest-first ws k n f e small =
    let low = bit_at-trailing_zeros w64 n (omega (arith, f.some, e)) small in
    let t = trailing_zeros w64 n in
    let here : (64 * k + t) / 64 ≡ k = omega (arith, low.0) in
    let place : (64 * k + t) % 64 ≡ t = omega (arith, low.0) in
    record {
      is_set = (λ i. eqb (bit_at (word ws (here i)) (place i)) 1) ∙ ap
          (λ m. eqb (bit_at m t) 1) e ∙ ap (λ b. eqb b 1) low.1;
      first = λ j lt. elim (cases_lt (j / 64) k) [
        | inl before ↦ bit-zero_word ws j (f.first (j / 64) before)
        | inr same ↦
            let at : j / 64 ≡ k = omega (arith, low.0) in
            ap (λ m. eqb (bit_at (word ws m) (j % 64)) 1) at ∙ ap (λ m. eqb (bit_at m (j % 64)) 1) e
            ∙ ap (λ b. eqb b 1) (low.2 (j % 64) (omega (arith, low.0)))
      ];
    }

-- words of 0 have no bit set
pub summary-zeros : (n m : ℕ) → n ≤ 64 * m → IsSummary (replicate n 0) (replicate m 0)
summary-zeros n m le =
    record {
      long = simp length-replicate le;
      each = λ k. bit-replicate m k ∙ sym (ap (λ w. not (eqb w 0)) (elim (cases_lt k n) [
        | inl lt ↦ get_or-replicate n k 0 0 lt
        | inr ge ↦ get_or_past (replicate n 0) k 0 (simp length-replicate ge)
      ]));
    }

-- a row remains one
pub row-with : (ws gs hs : List ℕ) (i : ℕ) → IsRow ws gs hs → i < 64 * length ws
    → IsRow (with_bit ws i) (with_bit gs (i / 64)) (with_bit hs (i / 64 / 64))
row-with ws gs hs i h within =
    record {
      grouped = summary-with ws gs i h.grouped within;
      headed = summary-with gs hs (i / 64) h.headed (omega (arith, h.grouped.long));
      short = subst (λ n. n ≤ 16384) (sym (length-set ws (i / 64) _)) h.short;
      few_groups = subst (λ n. n ≤ 16384) (sym (length-set gs (i / 64 / 64) _)) h.few_groups;
      few_heads = subst (λ n. n ≤ 16384) (sym (length-set hs (i / 64 / 64 / 64) _)) h.few_heads;
    }

pub row-without : (ws gs hs : List ℕ) (i : ℕ) → IsRow ws gs hs → i < 64 * length ws
    → word (without_bit ws i) (i / 64) ≡ 0 → word (without_bit gs (i / 64)) (i / 64 / 64) ≡ 0
    → IsRow (without_bit ws i) (without_bit gs (i / 64)) (without_bit hs (i / 64 / 64))
row-without ws gs hs i h within none none_above =
    record {
      grouped = summary-without ws gs i h.grouped within none;
      headed = summary-without gs hs (i / 64) h.headed (omega (arith, h.grouped.long)) none_above;
      short = subst (λ n. n ≤ 16384) (sym (length-set ws (i / 64) _)) h.short;
      few_groups = subst (λ n. n ≤ 16384) (sym (length-set gs (i / 64 / 64) _)) h.few_groups;
      few_heads = subst (λ n. n ≤ 16384) (sym (length-set hs (i / 64 / 64 / 64) _)) h.few_heads;
    }

pub row-without_group : (ws gs hs : List ℕ) (i : ℕ) → IsRow ws gs hs → i < 64 * length ws
    → word (without_bit ws i) (i / 64) ≡ 0 → word (without_bit gs (i / 64)) (i / 64 / 64) ≢ 0
    → IsRow (without_bit ws i) (without_bit gs (i / 64)) hs
row-without_group ws gs hs i h within none some_above =
    record {
      grouped = summary-without ws gs i h.grouped within none;
      headed = summary-left gs hs (i / 64) h.headed (omega (arith, h.grouped.long)) some_above;
      short = subst (λ n. n ≤ 16384) (sym (length-set ws (i / 64) _)) h.short;
      few_groups = subst (λ n. n ≤ 16384) (sym (length-set gs (i / 64 / 64) _)) h.few_groups;
      few_heads = h.few_heads;
    }

pub row-without_word : (ws gs hs : List ℕ) (i : ℕ) → IsRow ws gs hs → i < 64 * length ws
    → word (without_bit ws i) (i / 64) ≢ 0 → IsRow (without_bit ws i) gs hs
row-without_word ws gs hs i h within some =
    record {
      grouped = summary-left ws gs i h.grouped within some;
      headed = h.headed;
      short = subst (λ n. n ≤ 16384) (sym (length-set ws (i / 64) _)) h.short;
      few_groups = h.few_groups;
      few_heads = h.few_heads;
    }
