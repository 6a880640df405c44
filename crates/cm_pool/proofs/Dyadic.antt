-- Blocks of the binary tree of halves: where they start and stop, their halves, and what is inside
-- what.
-- For `Pool::alloc`, `Pool::give`, `take_out`.
use Rattle.std.proofs.Common.{◌≡◌, ℕ, suc, ◌+◌, ◌-◌, ◌*◌, ◌/◌, ◌%◌, ◌^◌, ◌<◌, ◌≤◌, Bool, true}
use Rattle.std.proofs.Common.{false, cond, ◌||◌, eqb, refl, sym, ap, ◌∙◌, subst, inl, inr, ◌⊎◌}
use Rattle.std.proofs.Common.{arith}
use Rattle.std.proofs.lemmas.Nat.{pow_pos, shr-shr}
use Rattle.std.proofs.lemmas.Bool.{eqb-true, eq-eqb, ne_eqb, cases_eq, or_left, or_right}
use Rattle.std.proofs.lemmas.Bool.Decides.{nat_tests}
use Rattle.std.proofs.Math.Nat.{div-mul-le_self, lt-div-mul-add, div-eq_of_lt-le, two-pow-succ}
use Rattle.std.proofs.Math.Nat.{mul-le-mul_left}
use Rattle.cm_pool.specs.declared.block.Block.{Block}
use Rattle.cm_pool.specs.Blocks.{is_in, start, stop, Inside, left_half, right_half, other_half}
use Rattle.cm_pool.specs.Blocks.{block_above}

pub is_in-bounds : (b : Block) (g : ℕ) → is_in b g ≡ true → (start b ≤ g) × (g < stop b)
is_in-bounds b g h =
    let part : g / 2 ^ b.order ≡ b.index = eqb-true _ _ h in (
      subst (λ i. i * 2 ^ b.order ≤ g) part (div-mul-le_self g (2 ^ b.order)),
      subst (λ i. g < i * 2 ^ b.order + 2 ^ b.order) part (lt-div-mul-add (pow_pos b.order)),
    )

pub is_in-from_bounds : (b : Block) (g : ℕ) → start b ≤ g → g < stop b → is_in b g ≡ true
is_in-from_bounds b g low high = eq-eqb _ _ (div-eq_of_lt-le (2 ^ b.order) low (omega arith))

pub is_in-start : (b : Block) → is_in b (start b) ≡ true
is_in-start b = is_in-from_bounds b (start b) (omega arith) (omega (arith, pow_pos b.order))

pub is_in-last : (b : Block) → is_in b (stop b - 1) ≡ true
is_in-last b =
    is_in-from_bounds b (stop b - 1) (omega (arith, pow_pos b.order))
    (omega (arith, pow_pos b.order))

-- a number's half
pub half_eq : (x i : ℕ) → eqb (x / 2) i ≡ (eqb x (2 * i) || eqb x (2 * i + 1))
half_eq x i = grind (arith, nat_tests)

-- the size of a block, from that of its halves
pub twice : (o : ℕ) → 0 < o → 2 ^ o ≡ 2 ^ (o - 1) + 2 ^ (o - 1)
twice o h = let e : o ≡ suc (o - 1) = omega arith in ap (λ k. 2 ^ k) e ∙ two-pow-succ (o - 1)

pub is_in-halves : (b : Block) (g : ℕ) → 0 < b.order
    → is_in b g ≡ (is_in (left_half b) g || is_in (right_half b) g)
unfolding left_half right_half
is_in-halves b g h =
    let order : b.order ≡ b.order - 1 + 1 = omega arith in
    ap (λ k. eqb (g / 2 ^ k) b.index) order
    ∙ ap (λ x. eqb x b.index) (sym (shr-shr g (b.order - 1) 1))
    ∙ half_eq (g / 2 ^ (b.order - 1)) b.index

pub start-left_half : (b : Block) → 0 < b.order → start (left_half b) ≡ start b
unfolding left_half
start-left_half b h = omega (arith, ap (λ s. b.index * s) (twice b.order h))

pub stop-left_half : (b : Block) → 0 < b.order → stop (left_half b) ≡ start (right_half b)
unfolding left_half right_half
stop-left_half b h = omega arith

pub stop-right_half : (b : Block) → 0 < b.order → stop (right_half b) ≡ stop b
unfolding right_half
stop-right_half b h = omega (arith, twice b.order h, ap (λ s. b.index * s) (twice b.order h))

-- what is inside a block
pub inside-is_in : (w b : Block) (g : ℕ) → Inside w b → is_in w g ≡ true → is_in b g ≡ true
inside-is_in w b g h in_w =
    let order : b.order ≡ w.order + (b.order - w.order) = omega (arith, h.smaller) in
    let part : g / 2 ^ w.order ≡ w.index = eqb-true _ _ in_w in
    eq-eqb _ _ (ap (λ k. g / 2 ^ k) order ∙ sym (shr-shr g w.order (b.order - w.order)) ∙ ap
    (λ x. x / 2 ^ (b.order - w.order)) part ∙ h.same_part)

pub inside-start : (w b : Block) → Inside w b → start b ≤ start w
inside-start w b h = (is_in-bounds b (start w) (inside-is_in w b (start w) h (is_in-start w))).0

pub inside-stop : (w b : Block) → Inside w b → stop w ≤ stop b
inside-stop w b h =
    let last = is_in-bounds b (stop w - 1) (inside-is_in w b (stop w - 1) h (is_in-last w)) in
    omega (arith, last.1, pow_pos w.order)

-- two blocks that share a granule are nested
pub inside-from_shared : (w b : Block) (g : ℕ) → w.order ≤ b.order → is_in w g ≡ true
    → is_in b g ≡ true → Inside w b
inside-from_shared w b g le in_w in_b =
    let order : b.order ≡ w.order + (b.order - w.order) = omega arith in
    let part : g / 2 ^ w.order ≡ w.index = eqb-true _ _ in_w in
    let whole : g / 2 ^ b.order ≡ b.index = eqb-true _ _ in_b in
    record {
      smaller = le;
      same_part = ap
          (λ x. x / 2 ^ (b.order - w.order)) (sym part) ∙ shr-shr g w.order (b.order - w.order)
          ∙ ap (λ k. g / 2 ^ k) (sym order) ∙ whole;
    }

pub same_block : (a b : Block) → a.index ≡ b.index → a.order ≡ b.order → a ≡ b
same_block a b e f = λ i. record { index = e i; order = f i }

pub inside-same_order : (w b : Block) → Inside w b → w.order ≡ b.order → w ≡ b
inside-same_order w b h e =
    let none : b.order - w.order ≡ 0 = omega arith in
    let whole : w.index / 2 ^ 0 ≡ w.index = omega arith in
    same_block w b (sym whole ∙ ap (λ k. w.index / 2 ^ k) (sym none) ∙ h.same_part) e

-- what is inside a block and smaller is inside a half
pub inside-half : (w b : Block) → Inside w b → w.order < b.order → Inside w (left_half b)
    ⊎ Inside w (right_half b)
unfolding left_half right_half
inside-half w b h lt =
    let order : b.order - w.order ≡ b.order - 1 - w.order + 1 = omega arith in
    let halved : w.index / 2 ^ (b.order - 1 - w.order) / 2 ≡ b.index =
    shr-shr w.index (b.order - 1 - w.order) 1 ∙ ap (λ k. w.index / 2 ^ k) (sym order) ∙ h.same_part
    in
    elim (cases_eq (w.index / 2 ^ (b.order - 1 - w.order)) (2 * b.index)) [
      | inl e ↦ inl (record { smaller = omega arith; same_part = e })
      | inr n ↦ inr (record { smaller = omega arith; same_part = omega arith })
    ]

-- the other half
pub other-order : (b : Block) → (other_half b).order ≡ b.order
unfolding other_half
other-order b = refl

pub other-index : (b : Block) → ((b.index % 2 ≡ 0) × ((other_half b).index ≡ b.index + 1))
    ⊎ ((b.index % 2 ≡ 1) × ((other_half b).index + 1 ≡ b.index))
unfolding other_half
other-index b =
    elim (cases_eq (b.index % 2) 0) [
      | inl even ↦ inl (
        even,
        ap
            (λ t. cond t (b.index + 1) (b.index - 1)) (eq-eqb (b.index % 2) 0 even),
      )
      | inr odd ↦
          let one : b.index % 2 ≡ 1 = omega arith in
          let before : b.index - 1 + 1 ≡ b.index = omega arith in
          inr (
            one,
            ap
                (λ t. cond t (b.index + 1) (b.index - 1) + 1) (ne_eqb (b.index % 2) 0 odd) ∙ before,
          )
    ]

pub other-other : (b : Block) → other_half (other_half b) ≡ b
other-other b =
    same_block (other_half (other_half b)) b
    (elim (other-index b) [
      | inl (even, next) ↦ elim (other-index (other_half b)) [
        | inl (parity, after) ↦ absurd (omega arith)
        | inr (parity, after) ↦ omega arith
      ]
      | inr (odd, before) ↦ elim (other-index (other_half b)) [
        | inl (parity, after) ↦ omega arith
        | inr (parity, after) ↦ absurd (omega arith)
      ]
    ])
    (other-order (other_half b) ∙ other-order b)

or_turned : (a b : Bool) → (a || b) ≡ (b || a)
or_turned true true = refl
or_turned true false = refl
or_turned false true = refl
or_turned false false = refl

-- the block above is both halves
pub in-above : (b : Block) (g : ℕ) → is_in (block_above b) g ≡ (is_in b g || is_in (other_half b) g)
unfolding block_above
in-above b g =
    let part = g / 2 ^ b.order in
    let both : eqb (g / 2 ^ (b.order + 1)) (b.index / 2)
    ≡ (eqb part (2 * (b.index / 2)) || eqb part (2 * (b.index / 2) + 1)) =
    ap (λ x. eqb x (b.index / 2)) (sym (shr-shr g b.order 1)) ∙ half_eq part (b.index / 2)
    in
    let order : eqb (g / 2 ^ (other_half b).order) (other_half b).index
    ≡ eqb part (other_half b).index =
    ap (λ k. eqb (g / 2 ^ k) (other_half b).index) (other-order b) in
    elim (other-index b) [
      | inl (even, next) ↦
          let here : 2 * (b.index / 2) ≡ b.index = omega arith in
          let there : 2 * (b.index / 2) + 1 ≡ (other_half b).index = omega arith in
          both ∙ (λ i. eqb part (here i) || eqb part (there i)) ∙ ap
          (λ t. eqb part b.index || t) (sym order)
      | inr (odd, before) ↦
          let here : 2 * (b.index / 2) + 1 ≡ b.index = omega arith in
          let there : 2 * (b.index / 2) ≡ (other_half b).index = omega arith in
          both ∙ (λ i. eqb part (there i) || eqb part (here i))
          ∙ or_turned (eqb part (other_half b).index) (eqb part b.index)
          ∙ ap (λ t. eqb part b.index || t) (sym order)
    ]

pub apart-other : (b : Block) (g : ℕ) → is_in b g ≡ true → is_in (other_half b) g ≡ true → ⊥
apart-other b g here there =
    let mine : g / 2 ^ b.order ≡ b.index = eqb-true _ _ here in
    let its : g / 2 ^ b.order ≡ (other_half b).index = ap
    (λ k. g / 2 ^ k) (sym (other-order b)) ∙ eqb-true _ _ there in
    elim (other-index b) [
      | inl (even, next) ↦ absurd (omega arith)
      | inr (odd, before) ↦ absurd (omega arith)
    ]

pub other-left : (b : Block) → other_half (left_half b) ≡ right_half b
unfolding left_half right_half other_half
other-left b =
    let even : 2 * b.index % 2 ≡ 0 = omega arith in
    same_block _ _ (ap
    (λ t. cond t (2 * b.index + 1) (2 * b.index - 1)) (eq-eqb (2 * b.index % 2) 0 even)) refl

pub other-right : (b : Block) → other_half (right_half b) ≡ left_half b
unfolding left_half right_half other_half
other-right b =
    let odd : (2 * b.index + 1) % 2 ≡ 0 → ⊥ = λ e. absurd (omega arith) in
    let before : 2 * b.index + 1 - 1 ≡ 2 * b.index = omega arith in
    same_block _ _ (ap
    (λ t. cond t (2 * b.index + 1 + 1) (2 * b.index + 1 - 1)) (ne_eqb ((2 * b.index + 1) % 2) 0 odd)
    ∙ before) refl

pub order-left : (b : Block) → (left_half b).order ≡ b.order - 1
unfolding left_half
order-left b = refl

pub order-right : (b : Block) → (right_half b).order ≡ b.order - 1
unfolding right_half
order-right b = refl

pub order-block_above : (b : Block) → (block_above b).order ≡ b.order + 1
unfolding block_above
order-block_above b = refl

-- a block that contains a half and is larger contains the block above
pub inside-above : (b c : Block) → Inside b c → b.order < c.order → Inside (block_above b) c
inside-above b c h lt =
    inside-from_shared (block_above b) c (start b) (omega (arith, order-block_above b))
    (in-above b (start b) ∙ or_left (is_in b (start b)) _ (is_in-start b))
    (inside-is_in b c (start b) h (is_in-start b))

pub inside-other : (b c : Block) → Inside b c → b.order < c.order → (g : ℕ)
    → is_in (other_half b) g ≡ true → is_in c g ≡ true
inside-other b c h lt g e =
    inside-is_in (block_above b) c g (inside-above b c h lt)
    (in-above b g ∙ or_right (is_in b g) _ e)

-- a block that starts below a limit has an index below it
pub index-below : (b : Block) (limit : ℕ) → start b < limit → b.index < limit
index-below b limit h = omega (arith, mul-le-mul_left b.index (pow_pos b.order))
