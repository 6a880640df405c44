-- The block that begins first, of those whose bits are set.
-- For `first_in`.
use Rattle.std.proofs.Common.{◌≡◌, ℕ, ◌+◌, ◌*◌, ◌^◌, ◌<◌, ◌≤◌, true, false, List, Option, Some}
use Rattle.std.proofs.Common.{None, IfSome, IfNone, sym, ap, ◌∙◌, subst, inl, inr, ◌⊎◌, arith}
use Rattle.std.proofs.lemmas.Bool.{both_ways, cases_lt}
use Rattle.std.proofs.Math.Nat.{mul-le-mul_right}
use Rattle.cm_pool.specs.Bits.{bit, IsFirstBit}
use Rattle.cm_pool.specs.declared.block.Block.{Block}
use Rattle.cm_pool.specs.Blocks.{start}
use Rattle.cm_pool.specs.Rows.{row, is_marked, IsFirstBlock, IsFirstFrom}

-- the first block in one row
pub first-from : (rows : List (List ℕ)) (order index : ℕ) → IsFirstBit (row rows order) index
    → IsFirstBlock rows order (order + 1) (record { index = index; order = order })
first-from rows order index h =
    record {
      is_set = h.is_set;
      from = omega arith;
      to = omega arith;
      first = λ c low high e.
          let same : c.order ≡ order = omega arith in
          let here : bit (row rows order) c.index ≡ true = ap
          (λ k. bit (row rows k) c.index) (sym same) ∙ e in
          elim (cases_lt c.index index) [
            | inl less ↦ absurd (both_ways _ (h.first c.index less) here)
            | inr ge ↦
                let most : index * 2 ^ order ≤ c.index * 2 ^ order =
                mul-le-mul_right (2 ^ order) ge in
                subst (λ k. index * 2 ^ order ≤ c.index * 2 ^ k) (sym same) most
          ];
    }

pub none-from : (rows : List (List ℕ)) (order : ℕ) → ((at : ℕ) → bit (row rows order) at ≡ false)
    → IsFirstFrom rows order (order + 1) None
none-from rows order none c low high =
    let same : c.order ≡ order = omega arith in
    ap (λ k. bit (row rows k) c.index) same ∙ none c.index

-- the first block with one more row
pub record IsEarlier (a b found : Option Block) : Type 0 where
  pub none : IfNone found ((a ≡ None) × (b ≡ None))
  pub one : IfSome found (λ x. (a ≡ Some x) ⊎ (b ≡ Some x))
  pub before_a : IfSome found (λ x. IfSome a (λ y. start x ≤ start y))
  pub before_b : IfSome found (λ x. IfSome b (λ y. start x ≤ start y))

-- what is set in either part
later : (rows : List (List ℕ)) (low high : ℕ) (a : Option Block) (c : Block) (least : ℕ)
    → IsFirstFrom rows low high a → IfSome a (λ y. least ≤ start y) → low ≤ c.order
    → c.order < high → is_marked rows c ≡ true → least ≤ start c
later rows low high None c least h before from to e = absurd (both_ways _ (h c from to) e)
later rows low high (Some y) c least h before from to e = omega (arith, h.first c from to e, before)

pub first-more : (rows : List (List ℕ)) (low high : ℕ) (a b found : Option Block) → low ≤ high
    → IsFirstFrom rows low high a → IsFirstFrom rows high (high + 1) b → IsEarlier a b found
    → IsFirstFrom rows low (high + 1) found
first-more rows low high a b None le first next h =
    λ c from to. elim (cases_lt c.order high) [
      | inl lt ↦ subst (IsFirstFrom rows low high) h.none.0 first c from lt
      | inr ge ↦ subst (IsFirstFrom rows high (high + 1)) h.none.1 next c ge to
    ]
first-more rows low high a b (Some x) le first next h =
    let from_a : a ≡ Some x
    → IsFirstBlock rows low high x = λ e. subst (IsFirstFrom rows low high) e first in
    let from_b : b ≡ Some x
    → IsFirstBlock rows high (high + 1) x = λ e. subst (IsFirstFrom rows high (high + 1)) e next in
    record {
      is_set = elim h.one [ inl e ↦ (from_a e).is_set | inr e ↦ (from_b e).is_set ];
      from = elim h.one [ inl e ↦ (from_a e).from | inr e ↦ omega (arith, (from_b e).from) ];
      to = elim h.one [ inl e ↦ omega (arith, (from_a e).to) | inr e ↦ (from_b e).to ];
      first = λ c from to e. elim (cases_lt c.order high) [
        | inl lt ↦ later rows low high a c (start x) first h.before_a from lt e
        | inr ge ↦ later rows high (high + 1) b c (start x) next h.before_b ge to e
      ];
    }
