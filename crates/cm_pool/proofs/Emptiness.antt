-- Rows with no bit set, made one after another.
-- For `empty_rows`.
use Rattle.std.proofs.Common.{◌≡◌, ℕ, zero, suc, ◌+◌, ◌-◌, ◌*◌, ◌^◌, ◌<◌, ◌≤◌, List, [], ◌∷◌, ◌++◌}
use Rattle.std.proofs.Common.{length, replicate, refl, sym, ap, ◌∙◌, inl, inr, arith, length-append}
use Rattle.std.proofs.lemmas.List.{get_or_push, length-replicate}
use Rattle.std.proofs.lemmas.Bool.{cases_lt, cases_eq}
use Rattle.std.proofs.lemmas.Nat.{pow-add}
use Rattle.std.proofs.Math.Nat.{lt_of_mul-lt-mul_right}
use Rattle.cm_pool.specs.Bits.{bit}
use Rattle.cm_pool.proofs.BitFacts.{bit-replicate}
use Rattle.cm_pool.specs.Geometry.{Sizes, IsGeometry}
use Rattle.cm_pool.specs.Rows.{row, AreEmpty}
use Rattle.cm_pool.proofs.Marks.{no-mark_past}

-- this many rows, each of words that are 0, with a bit for each block of a region
pub record AreZeros (sizes : Sizes) (count : ℕ) (rows : List (List ℕ)) : Type 0 where
  pub orders : length rows ≡ count
  pub zeros : (o : ℕ) → o < count → row rows o ≡ replicate (length (row rows o)) 0
  pub room : (o : ℕ) → o < count → sizes.roots * 2 ^ (sizes.top - o) ≤ 64 * length (row rows o)

pub none-yet : (sizes : Sizes) → AreZeros sizes 0 []
none-yet sizes =
    record {
      orders = refl;
      zeros = λ o lt. absurd (omega arith);
      room = λ o lt. absurd (omega arith);
    }

at-end : (rows : List (List ℕ)) (r : List ℕ) (count : ℕ) → length rows ≡ count
    → row (rows ++ r ∷ []) count ≡ r
at-end rows r count e = get_or_push rows r [] count e

before-end : (rows : List (List ℕ)) (r : List ℕ) (o : ℕ) → o < length rows
    → row (rows ++ r ∷ []) o ≡ row rows o
before-end [] r o lt = absurd (omega arith)
before-end (x ∷ rows) r zero lt = refl
before-end (x ∷ rows) r (suc o) lt = before-end rows r o (omega arith)

pub one-more : (sizes : Sizes) (count words : ℕ) (rows : List (List ℕ))
    → AreZeros sizes count rows → sizes.roots * 2 ^ (sizes.top - count) ≤ 64 * words
    → AreZeros sizes (count + 1) (rows ++ replicate words 0 ∷ [])
one-more sizes count words rows h enough =
    let new : List ℕ = replicate words 0 in
    let last : row (rows ++ new ∷ []) count ≡ new = at-end rows new count h.orders in
    let words_len : length new ≡ words = length-replicate words 0 in
    record {
      orders = omega (arith, h.orders, length-append rows (new ∷ []));
      zeros = λ o lt. elim (cases_eq o count) [
        | inl e ↦
            let here : row (rows ++ new ∷ []) o ≡ new = ap (row (rows ++ new ∷ [])) e ∙ last in
            let len : words ≡ length (row (rows ++ new ∷ []) o) =
            sym words_len ∙ ap length (sym here) in
            here ∙ ap (λ n. replicate {A = ℕ} n 0) len
        | inr other ↦
            let before : row (rows ++ new ∷ []) o ≡ row rows o =
            before-end rows new o (omega (arith, h.orders)) in
            before ∙ h.zeros o (omega arith) ∙ ap
            (λ (r : List ℕ). replicate {A = ℕ} (length r) 0) (sym before)
      ];
      room = λ o lt. elim (cases_eq o count) [
        | inl e ↦
            let here : length (row (rows ++ new ∷ []) o) ≡ words =
            ap length (ap (row (rows ++ new ∷ [])) e ∙ last) ∙ words_len in
            let same : sizes.roots * 2 ^ (sizes.top - o) ≡ sizes.roots * 2 ^ (sizes.top - count) =
            ap (λ k. sizes.roots * 2 ^ (sizes.top - k)) e in
            omega arith
        | inr other ↦
            let before : length (row (rows ++ new ∷ []) o) ≡ length (row rows o) =
            ap length (before-end rows new o (omega (arith, h.orders))) in
            omega (arith, h.room o (omega arith))
      ];
    }

pub all-empty : (sizes : Sizes) (rows : List (List ℕ)) → IsGeometry sizes
    → AreZeros sizes (sizes.top + 1) rows → AreEmpty sizes rows
all-empty sizes rows sizes_ok h =
    record {
      sizes_ok = sizes_ok;
      orders = h.orders;
      none = λ b. elim (cases_lt b.order (length rows)) [
        | inl lt ↦ ap
            (λ r. bit r b.index) (h.zeros b.order (omega (arith, h.orders)))
            ∙ bit-replicate (length (row rows b.order)) b.index
        | inr ge ↦ no-mark_past rows b ge
      ];
      room = λ b le lt.
          let parts : 2 ^ sizes.top ≡ 2 ^ (sizes.top - b.order) * 2 ^ b.order =
          let e : sizes.top ≡ (sizes.top - b.order) + b.order =
          omega arith in ap (λ k. 2 ^ k) e ∙ pow-add 2 (sizes.top - b.order) b.order in
          let below : b.index < sizes.roots * 2 ^ (sizes.top - b.order) =
          lt_of_mul-lt-mul_right (2 ^ b.order) (omega (arith, ap (λ s. sizes.roots * s) parts)) in
          omega (arith, h.room b.order (omega arith));
    }
