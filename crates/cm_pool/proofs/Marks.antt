-- One block's bit in the rows: what it changes, and what is covered afterwards.
-- For `give_back`.
use Rattle.std.proofs.Common.{◌≡◌, ◌≢◌, ℕ, zero, suc, ◌+◌, ◌*◌, ◌/◌, ◌^◌, ◌<◌, ◌≤◌, Bool, true}
use Rattle.std.proofs.Common.{false, not, ◌||◌, ◌&&◌, eqb, List, [], ◌∷◌, length, set, refl, sym}
use Rattle.std.proofs.Common.{ap, ◌∙◌, inl, inr, ◌⊎◌, arith, length-set}
use Rattle.std.proofs.lemmas.List.{get_or-set_same, get_or-set_other, get_or_past}
use Rattle.std.proofs.lemmas.Nat.{shr-shr}
use Rattle.std.proofs.lemmas.Bool.{cases_eq, cases_lt, eq-eqb, eqb-true, eqb-false, both_ways}
use Rattle.std.proofs.lemmas.Bool.{or_cases, or_left, or_right, and_parts, not-true}
use Rattle.cm_pool.specs.Bits.{bit, with_bit, without_bit}
use Rattle.cm_pool.proofs.BitFacts.{bit-with, bit-without, bit-past, bit-within}
use Rattle.cm_pool.specs.declared.block.Block.{Block}
use Rattle.cm_pool.specs.Blocks.{is_in}
use Rattle.cm_pool.specs.Rows.{row, is_marked, with_mark, without_mark, HasPlace, is_covered}
use Rattle.cm_pool.proofs.Dyadic.{same_block}

pub no-mark_past : (rows : List (List ℕ)) (b : Block) → length rows ≤ b.order
    → is_marked rows b ≡ false
no-mark_past rows b h = ap
    (λ r. bit r b.index) (get_or_past rows b.order [] h) ∙ bit-past [] b.index (omega arith)

pub marked-place : (rows : List (List ℕ)) (b : Block) → is_marked rows b ≡ true → HasPlace rows b
marked-place rows b e =
    record {
      order = elim (cases_lt b.order (length rows)) [
        | inl lt ↦ lt
        | inr ge ↦ absurd (both_ways _ (no-mark_past rows b ge) e)
      ];
      index = bit-within (row rows b.order) b.index e;
    }

-- the row that changes
row-with : (rows : List (List ℕ)) (b : Block) (o : ℕ) → HasPlace rows b → o ≡ b.order
    → row (with_mark rows b) o ≡ with_bit (row rows b.order) b.index
row-with rows b o h e = ap (row (with_mark rows b)) e
    ∙ get_or-set_same rows b.order (with_bit (row rows b.order) b.index) [] h.order

row-without : (rows : List (List ℕ)) (b : Block) (o : ℕ) → HasPlace rows b → o ≡ b.order
    → row (without_mark rows b) o ≡ without_bit (row rows b.order) b.index
row-without rows b o h e = ap (row (without_mark rows b)) e
    ∙ get_or-set_same rows b.order (without_bit (row rows b.order) b.index) [] h.order

other-with : (rows : List (List ℕ)) (b : Block) (o : ℕ) → o ≢ b.order
    → row (with_mark rows b) o ≡ row rows o
other-with rows b o other =
    get_or-set_other rows b.order o (with_bit (row rows b.order) b.index) [] other

other-without : (rows : List (List ℕ)) (b : Block) (o : ℕ) → o ≢ b.order
    → row (without_mark rows b) o ≡ row rows o
other-without rows b o other =
    get_or-set_other rows b.order o (without_bit (row rows b.order) b.index) [] other

-- each row keeps its length
pub length-with : (rows : List (List ℕ)) (b : Block) (o : ℕ) → HasPlace rows b
    → length (row (with_mark rows b) o) ≡ length (row rows o)
length-with rows b o h =
    elim (cases_eq o b.order) [
      | inl e ↦ ap length (row-with rows b o h e) ∙ length-set (row rows b.order) _ _ ∙ ap
          (λ k. length (row rows k)) (sym e)
      | inr other ↦ ap length (other-with rows b o other)
    ]

pub length-without : (rows : List (List ℕ)) (b : Block) (o : ℕ) → HasPlace rows b
    → length (row (without_mark rows b) o) ≡ length (row rows o)
length-without rows b o h =
    elim (cases_eq o b.order) [
      | inl e ↦ ap length (row-without rows b o h e) ∙ length-set (row rows b.order) _ _ ∙ ap
          (λ k. length (row rows k)) (sym e)
      | inr other ↦ ap length (other-without rows b o other)
    ]

-- which bits are set after a change
pub marked-with : (rows : List (List ℕ)) (b c : Block) → HasPlace rows b
    → is_marked (with_mark rows b) c ≡ true → (c ≡ b) ⊎ (is_marked rows c ≡ true)
marked-with rows b c h e =
    elim (cases_eq c.order b.order) [
      | inl same ↦
          let test = sym (bit-with (row rows b.order) b.index c.index h.index) ∙ sym (ap
          (λ r. bit r c.index) (row-with rows b c.order h same)) ∙ e in
          elim (or_cases (eqb c.index b.index) _ test) [
            | inl here ↦ inl (same_block c b (eqb-true _ _ here) same)
            | inr old ↦ inr (ap (λ k. bit (row rows k) c.index) same ∙ old)
          ]
      | inr other ↦ inr (sym (ap (λ r. bit r c.index) (other-with rows b c.order other)) ∙ e)
    ]

pub marked-without : (rows : List (List ℕ)) (b c : Block) → HasPlace rows b
    → is_marked (without_mark rows b) c ≡ true → (c ≢ b) × (is_marked rows c ≡ true)
marked-without rows b c h e =
    elim (cases_eq c.order b.order) [
      | inl same ↦
          let test = sym (bit-without (row rows b.order) b.index c.index h.index) ∙ sym (ap
          (λ r. bit r c.index) (row-without rows b c.order h same)) ∙ e in
          let parts = and_parts (not (eqb c.index b.index)) _ test in (
            λ is. eqb-false c.index b.index (not-true _ parts.0) (ap (λ (x : Block). x.index) is),
            ap (λ k. bit (row rows k) c.index) same ∙ parts.1,
          )
      | inr other ↦ (
        λ is. other (ap (λ (x : Block). x.order) is),
        sym (ap (λ r. bit r c.index) (other-without rows b c.order other)) ∙ e,
      )
    ]

-- a granule of a block whose bit is set is covered, and each covered granule is in such a block
covered-bit : (rows : List (List ℕ)) (o g : ℕ) → bit (row rows o) (g / 2 ^ o) ≡ true
    → is_covered rows g ≡ true
covered-bit [] o g e = absurd (both_ways _ (ap
    (λ r. bit r (g / 2 ^ o)) (get_or_past [] o [] (omega arith))
    ∙ bit-past [] (g / 2 ^ o) (omega arith)) e)
covered-bit (r ∷ rows) zero g e =
    let whole : g / 2 ^ 0 ≡ g = omega arith in
    or_left (bit r g) _ (ap (bit r) (sym whole) ∙ e)
covered-bit (r ∷ rows) (suc o) g e =
    let order : suc o ≡ 1 + o = omega arith in
    let half : g / 2 / 2 ^ o ≡ g / 2 ^ (suc o) = shr-shr g 1 o ∙ ap (λ k. g / 2 ^ k) (sym order) in
    or_right (bit r g) _ (covered-bit rows o (g / 2) (ap (bit (row rows o)) half ∙ e))

pub covered-marked : (rows : List (List ℕ)) (b : Block) (g : ℕ) → is_marked rows b ≡ true
    → is_in b g ≡ true → is_covered rows g ≡ true
covered-marked rows b g e h =
    covered-bit rows b.order g (ap (bit (row rows b.order)) (eqb-true _ _ h) ∙ e)

covering-bit : (rows : List (List ℕ)) (g : ℕ) → is_covered rows g ≡ true → (o : ℕ)
    × (bit (row rows o) (g / 2 ^ o) ≡ true)
covering-bit [] g e = absurd (both_ways false refl e)
covering-bit (r ∷ rows) g e =
    let whole : g / 2 ^ 0 ≡ g = omega arith in
    elim (or_cases (bit r g) _ e) [
      | inl here ↦ (0, ap (bit r) whole ∙ here)
      | inr more ↦
          let found = covering-bit rows (g / 2) more in
          let order : suc found.0 ≡ 1 + found.0 = omega arith in (
            suc found.0,
            ap (bit (row rows found.0)) (ap
                (λ k. g / 2 ^ k) order ∙ sym (shr-shr g 1 found.0)) ∙ found.1,
          )
    ]

pub covering : (rows : List (List ℕ)) (g : ℕ) → is_covered rows g ≡ true → (b : Block)
    × (is_marked rows b ≡ true) × (is_in b g ≡ true)
covering rows g e =
    let found = covering-bit rows g e in (
      record { index = g / 2 ^ found.0; order = found.0 },
      found.1,
      eq-eqb (g / 2 ^ found.0) (g / 2 ^ found.0) refl,
    )

swap_or : (a b c : Bool) → (a || (b || c)) ≡ (b || (a || c))
swap_or true true c = refl
swap_or true false c = refl
swap_or false b c = refl

or_assoc : (a b c : Bool) → ((a || b) || c) ≡ (a || (b || c))
or_assoc true b c = refl
or_assoc false b c = refl

clear_or : (a b c : Bool) → (a || ((not a && b) || c)) ≡ (a || (b || c))
clear_or true b c = refl
clear_or false b c = refl

-- what is covered after a change
covers-with : (rows : List (List ℕ)) (o i g : ℕ) → o < length rows → i < 64 * length (row rows o)
    → is_covered (set rows o (with_bit (row rows o) i)) g ≡ (eqb (g / 2 ^ o) i || is_covered rows g)
covers-with [] o i g order index = absurd (omega arith)
covers-with (r ∷ rows) zero i g order index =
    let whole : g / 2 ^ 0 ≡ g = omega arith in
    ap (λ t. t || is_covered rows (g / 2)) (bit-with r i g index)
    ∙ or_assoc (eqb g i) (bit r g) (is_covered rows (g / 2))
    ∙ ap (λ n. eqb n i || (bit r g || is_covered rows (g / 2))) (sym whole)
covers-with (r ∷ rows) (suc o) i g order index =
    let next : suc o ≡ 1 + o = omega arith in
    let half : g / 2 / 2 ^ o ≡ g / 2 ^ (suc o) = shr-shr g 1 o ∙ ap (λ k. g / 2 ^ k) (sym next) in
    ap (λ t. bit r g || t) (covers-with rows o i (g / 2) (omega arith) index)
    ∙ swap_or (bit r g) (eqb (g / 2 / 2 ^ o) i) (is_covered rows (g / 2))
    ∙ ap (λ n. eqb n i || (bit r g || is_covered rows (g / 2))) half

covers-without : (rows : List (List ℕ)) (o i g : ℕ) → o < length rows
    → i < 64 * length (row rows o)
    → (eqb (g / 2 ^ o) i || is_covered (set rows o (without_bit (row rows o) i)) g)
    ≡ (eqb (g / 2 ^ o) i || is_covered rows g)
covers-without [] o i g order index = absurd (omega arith)
covers-without (r ∷ rows) zero i g order index =
    let whole : g / 2 ^ 0 ≡ g = omega arith in
    ap (λ t. eqb (g / 2 ^ 0) i || (t || is_covered rows (g / 2))) (bit-without r i g index)
    ∙ ap (λ n. eqb n i || ((not (eqb g i) && bit r g) || is_covered rows (g / 2))) whole
    ∙ clear_or (eqb g i) (bit r g) (is_covered rows (g / 2))
    ∙ ap (λ n. eqb n i || (bit r g || is_covered rows (g / 2))) (sym whole)
covers-without (r ∷ rows) (suc o) i g order index =
    let next : suc o ≡ 1 + o = omega arith in
    let half : g / 2 / 2 ^ o ≡ g / 2 ^ (suc o) = shr-shr g 1 o ∙ ap (λ k. g / 2 ^ k) (sym next) in
    let rest = set rows o (without_bit (row rows o) i) in
    ap (λ n. eqb n i || (bit r g || is_covered rest (g / 2))) (sym half)
    ∙ swap_or (eqb (g / 2 / 2 ^ o) i) (bit r g) (is_covered rest (g / 2))
    ∙ ap (λ t. bit r g || t) (covers-without rows o i (g / 2) (omega arith) index)
    ∙ swap_or (bit r g) (eqb (g / 2 / 2 ^ o) i) (is_covered rows (g / 2))
    ∙ ap (λ n. eqb n i || (bit r g || is_covered rows (g / 2))) half

pub covered-with : (rows : List (List ℕ)) (b : Block) (g : ℕ) → HasPlace rows b
    → is_covered (with_mark rows b) g ≡ (is_in b g || is_covered rows g)
covered-with rows b g h = covers-with rows b.order b.index g h.order h.index

pub covered-without : (rows : List (List ℕ)) (b : Block) (g : ℕ) → HasPlace rows b
    → (is_in b g || is_covered (without_mark rows b) g) ≡ (is_in b g || is_covered rows g)
covered-without rows b g h = covers-without rows b.order b.index g h.order h.index
