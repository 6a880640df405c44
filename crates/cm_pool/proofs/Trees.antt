-- What the bits of a pool mean, preserved as blocks are split and joined.
-- For `Pool::add_root`, `give_back`, `take_out`.
use Rattle.std.proofs.Common.{◌≡◌, ℕ, zero, suc, ◌+◌, ◌-◌, ◌*◌, ◌/◌, ◌%◌, ◌^◌, ◌<◌, ◌≤◌, ◌↔◌, Bool}
use Rattle.std.proofs.Common.{true, false, cond, not, ◌||◌, ◌&&◌, eqb, List, length, refl, sym, ap}
use Rattle.std.proofs.Common.{◌∙◌, subst, inl, inr, ◌⊎◌, arith, length-set}
use Rattle.std.proofs.lemmas.Nat.{shr-shr}
use Rattle.std.proofs.lemmas.Bool.{cases_lt, cases_order, eq-eqb, eqb-true, both_ways, or_cases}
use Rattle.std.proofs.lemmas.Bool.{or_left, or_right, or_from, or_parts, false_from_ne_true}
use Rattle.cm_pool.specs.declared.block.Block.{Block}
use Rattle.cm_pool.specs.Blocks.{is_in, start, Inside, left_half, right_half, other_half}
use Rattle.cm_pool.specs.Blocks.{block_above}
use Rattle.cm_pool.specs.Rows.{is_marked, with_mark, without_mark, HasPlace, is_covered, IsWhole}
use Rattle.cm_pool.specs.Rows.{IsLargest, AreBitRows}
use Rattle.cm_pool.proofs.Dyadic.{half_eq, is_in-start, is_in-halves, inside-is_in}
use Rattle.cm_pool.proofs.Dyadic.{inside-same_order, inside-from_shared, same_block, other-order}
use Rattle.cm_pool.proofs.Dyadic.{other-other, other-left, other-right, order-left, order-right}
use Rattle.cm_pool.proofs.Dyadic.{order-block_above, in-above, apart-other, inside-other}
use Rattle.cm_pool.proofs.Marks.{marked-place, length-with, length-without, marked-with}
use Rattle.cm_pool.proofs.Marks.{marked-without, covered-marked, covering, covered-with}
use Rattle.cm_pool.proofs.Marks.{covered-without}

-- The same, expressed by the bits alone: no two such blocks share a granule, and no two are the
-- halves of one.
pub record IsTree (top : ℕ) (rows : List (List ℕ)) : Type 0 where
  pub orders : length rows ≡ top + 1
  pub apart : (a b : Block) (g : ℕ) → is_marked rows a ≡ true → is_marked rows b ≡ true
      → is_in a g ≡ true → is_in b g ≡ true → a.order ≡ b.order
  pub unjoined : (b : Block) → b.order < top → is_marked rows b ≡ true
      → is_marked rows (other_half b) ≡ false

-- blocks of one order that share a granule are the same
shared : (a b : Block) (g : ℕ) → a.order ≡ b.order → is_in a g ≡ true → is_in b g ≡ true → a ≡ b
shared a b g e in_a in_b = same_block a b (sym (eqb-true _ _ in_a) ∙ ap
    (λ k. g / 2 ^ k) e ∙ eqb-true _ _ in_b) e

pub marked-order : (top : ℕ) (rows : List (List ℕ)) (b : Block) → length rows ≡ top + 1
    → is_marked rows b ≡ true → b.order ≤ top
marked-order top rows b orders e = omega (arith, (marked-place rows b e).order)

-- from the meaning to the tree
smaller-apart : (top limit : ℕ) (rows : List (List ℕ)) (a b : Block) (g : ℕ)
    → AreBitRows top limit rows → is_marked rows a ≡ true → is_marked rows b ≡ true
    → is_in a g ≡ true → is_in b g ≡ true → a.order < b.order → ⊥
smaller-apart top limit rows a b g h set_a set_b in_a in_b lt =
    let below_a = marked-order top rows a h.orders set_a in
    let below_b = marked-order top rows b h.orders set_b in
    let nested = inside-from_shared a b g (omega arith) in_a in_b in
    ((h.meaning a below_a).0 set_a).1 (omega arith)
    (λ n e. covered-marked rows b n set_b (inside-other a b nested lt n e))

pub tree-from : (top limit : ℕ) (rows : List (List ℕ)) → AreBitRows top limit rows → IsTree top rows
tree-from top limit rows h =
    record {
      orders = h.orders;
      apart = λ a b g set_a set_b in_a in_b. elim (cases_order a.order b.order) [
        | inl e ↦ e
        | inr (inl lt) ↦ absurd (smaller-apart top limit rows a b g h set_a set_b in_a in_b lt)
        | inr (inr gt) ↦ absurd (smaller-apart top limit rows b a g h set_b set_a in_b in_a gt)
      ];
      unjoined = λ b lt e. false_from_ne_true _ (λ o.
          let below : (other_half b).order ≤ top = omega (arith, other-order b) in
          ((h.meaning b (omega arith)).0 e).1 lt ((h.meaning (other_half b) below).0 o).0);
    }

abbrev pub block : ℕ → ℕ → Block
block i o = record { index = i; order = o }

halves : (i o g : ℕ)
    → is_in (block i (suc o)) g ≡ (is_in (block (2 * i) o) g || is_in (block (2 * i + 1) o) g)
halves i o g =
    let order : suc o ≡ o + 1 = omega arith in
    ap (λ k. eqb (g / 2 ^ k) i) order ∙ ap
    (λ x. eqb x i) (sym (shr-shr g o 1)) ∙ half_eq (g / 2 ^ o) i

-- a block that contains a half and is larger contains the whole
larger : (i o : ℕ) (half c : Block) → ((g : ℕ) → is_in half g ≡ true
    → is_in (block i (suc o)) g ≡ true) → suc o ≤ c.order → Inside half c
    → Inside (block i (suc o)) c
larger i o half c part le h =
    inside-from_shared (block i (suc o)) c (start half) le (part (start half) (is_in-start half))
    (inside-is_in half c (start half) h (is_in-start half))

-- a block that is entirely covered is in one whose bit is set
abbrev pub Holder : List (List ℕ) → Block → Type 0
Holder rows w = (b : Block) × (is_marked rows b ≡ true) × Inside w b

other-block : (i o : ℕ) → other_half (block (2 * i) o) ≡ block (2 * i + 1) o
unfolding other_half
other-block i o =
    let even : 2 * i % 2 ≡ 0 = omega arith in
    same_block _ _ (ap (λ t. cond t (2 * i + 1) (2 * i - 1)) (eq-eqb (2 * i % 2) 0 even)) refl

no-halves : (top : ℕ) (rows : List (List ℕ)) (o i : ℕ) → IsTree top rows → o < top
    → is_marked rows (block (2 * i) o) ≡ true → is_marked rows (block (2 * i + 1) o) ≡ true → ⊥
no-halves top rows o i h lt left right =
    both_ways _ (ap (is_marked rows) (sym (other-block i o))
    ∙ h.unjoined (block (2 * i) o) lt left) right

holder-cases : (top : ℕ) (rows : List (List ℕ)) (o i : ℕ) → IsTree top rows → o < top
    → Holder rows (block (2 * i) o) → Holder rows (block (2 * i + 1) o)
    → Holder rows (block i (suc o))
holder-cases top rows o i h lt (b, m, in_b) (c, n, in_c) =
    elim (cases_lt o b.order) [
      | inl more ↦ (
        b,
        m,
        larger i o (block (2 * i) o) b
            (λ g e. halves i o g ∙ or_left _ _ e) (omega arith) in_b,
      )
      | inr same ↦
          elim (cases_lt o c.order) [
            | inl more ↦ (
              c,
              n,
              larger i o (block (2 * i + 1) o) c
                  (λ g e. halves i o g ∙ or_right _ _ e) (omega arith) in_c,
            )
            | inr alike ↦
                absurd (no-halves top rows o i h lt
                (ap (is_marked rows) (inside-same_order (block (2 * i) o) b in_b
                (omega (arith, in_b.smaller))) ∙ m)
                (ap (is_marked rows) (inside-same_order (block (2 * i + 1) o) c in_c
                (omega (arith, in_c.smaller))) ∙ n))
          ]
    ]

holds-whole : (top : ℕ) (rows : List (List ℕ)) (o i : ℕ) → IsTree top rows → o ≤ top
    → IsWhole rows (block i o) → Holder rows (block i o)
holds-whole top rows zero i h le whole =
    let here : is_in (block i 0) i ≡ true = eq-eqb (i / 2 ^ 0) i (omega arith) in
    let found = covering rows i (whole i here) in
    (found.0, found.1, inside-from_shared (block i 0) found.0 i (omega arith) here found.2)
holds-whole top rows (suc o) i h le whole =
    holder-cases top rows o i h (omega arith)
    (holds-whole top rows o (2 * i) h (omega arith) (λ g e. whole g (halves i o g ∙ or_left _ _ e)))
    (holds-whole top rows o (2 * i + 1) h (omega arith)
    (λ g e. whole g (halves i o g ∙ or_right _ _ e)))

pub whole-held : (top : ℕ) (rows : List (List ℕ)) (b : Block) → IsTree top rows → b.order ≤ top
    → IsWhole rows b → Holder rows b
whole-held top rows b h le whole = holds-whole top rows b.order b.index h le whole

-- from the tree to the meaning
set-largest : (top : ℕ) (rows : List (List ℕ)) (b : Block) → IsTree top rows
    → is_marked rows b ≡ true → IsLargest top rows b
set-largest top rows b h e = (
  λ g here. covered-marked rows b g e here,
  λ lt whole.
      let order = other-order b in
      let held = whole-held top rows (other_half b) h (omega arith) whole in
      let c = held.0 in
      elim (cases_lt b.order c.order) [
        | inl more ↦
            let in_c : is_in c (start b) ≡ true =
            inside-other (other_half b) c held.2 (omega arith) (start b) (ap
            (λ x. is_in x (start b)) (other-other b) ∙ is_in-start b)
            in
            let same : b.order ≡ c.order = h.apart b c (start b) e held.1 (is_in-start b) in_c in
            omega arith
        | inr less ↦
            let same = inside-same_order (other_half b) c held.2 (omega (arith, held.2.smaller)) in
            both_ways _ (h.unjoined b lt e) (ap (is_marked rows) same ∙ held.1)
      ],
)

largest-set : (top : ℕ) (rows : List (List ℕ)) (b : Block) → IsTree top rows → b.order ≤ top
    → IsLargest top rows b → is_marked rows b ≡ true
largest-set top rows b h le (whole, no_other) =
    let held = whole-held top rows b h le whole in
    let c = held.0 in
    elim (cases_lt b.order c.order) [
      | inl more ↦
          let below = marked-order top rows c h.orders held.1 in
          absurd (no_other (omega arith)
          (λ g e. covered-marked rows c g held.1 (inside-other b c held.2 more g e)))
      | inr less ↦ ap (is_marked rows)
          (inside-same_order b c held.2 (omega (arith, held.2.smaller))) ∙ held.1
    ]

pub meaning-from : (top : ℕ) (rows : List (List ℕ)) → IsTree top rows → (b : Block)
    → b.order ≤ top → (is_marked rows b ≡ true) ↔ IsLargest top rows b
meaning-from top rows h b le = (set-largest top rows b h, largest-set top rows b h le)

-- rows from which a block was taken, but which still have room for its bit
pub record IsHole (top limit : ℕ) (rows : List (List ℕ)) (b : Block) : Type 0 where
  pub kept : AreBitRows top limit rows
  pub small : b.order ≤ top
  pub clear : (g : ℕ) → is_in b g ≡ true → is_covered rows g ≡ false
  pub low : (g : ℕ) → is_in b g ≡ true → g < limit

pub hole-place : (top limit : ℕ) (rows : List (List ℕ)) (b : Block) → IsHole top limit rows b
    → HasPlace rows b
hole-place top limit rows b h =
    record {
      order = omega (arith, h.kept.orders, h.small);
      index = h.kept.room b h.small (h.low (start b) (is_in-start b));
    }

-- a set bit is cleared
tree-without : (top : ℕ) (rows : List (List ℕ)) (b : Block) → IsTree top rows → HasPlace rows b
    → IsTree top (without_mark rows b)
tree-without top rows b h place =
    let was : (c : Block) → is_marked (without_mark rows b) c ≡ true
    → is_marked rows c ≡ true = λ c e. (marked-without rows b c place e).1 in
    record {
      orders = length-set rows b.order _ ∙ h.orders;
      apart = λ x y g set_x set_y in_x in_y. h.apart x y g (was x set_x) (was y set_y) in_x in_y;
      unjoined = λ c lt e. false_from_ne_true _
          (λ o. both_ways _ (h.unjoined c lt (was c e)) (was (other_half c) o));
    }

pub hole-out : (top limit : ℕ) (rows : List (List ℕ)) (b : Block) → AreBitRows top limit rows
    → is_marked rows b ≡ true → IsHole top limit (without_mark rows b) b
hole-out top limit rows b h e =
    let place = marked-place rows b e in
    let tree = tree-from top limit rows h in
    let new = without_mark rows b in
    let less : (g : ℕ) → is_covered new g ≡ true → is_covered rows g ≡ true =
    λ g c. elim (or_cases (is_in b g) _ (sym (covered-without rows b g place)
    ∙ or_right (is_in b g) _ c)) [
      | inl here ↦ covered-marked rows b g e here
      | inr there ↦ there
    ]
    in
    record {
      kept = record {
        orders = length-set rows b.order _ ∙ h.orders;
        meaning = meaning-from top new (tree-without top rows b tree place);
        room = λ c le lt. omega (arith, h.room c le lt, length-without rows b c.order place);
        below = λ g c. h.below g (less g c);
        small = h.small;
      };
      small = marked-order top rows b h.orders e;
      clear = λ g here. false_from_ne_true _ (λ c.
          let found = covering new g c in
          let old = marked-without rows b found.0 place found.1 in
          old.0 (shared found.0 b g (tree.apart found.0 b g old.1 e found.2 here) found.2 here));
      low = λ g here. h.below g (covered-marked rows b g e here);
    }

-- a bit is set
tree-with : (top limit : ℕ) (rows : List (List ℕ)) (b : Block) → IsHole top limit rows b
    → (b.order < top → is_marked rows (other_half b) ≡ false) → IsTree top (with_mark rows b)
tree-with top limit rows b h alone =
    let place = hole-place top limit rows b h in
    let tree = tree-from top limit rows h.kept in
    let clear : (c : Block) (g : ℕ) → is_marked rows c ≡ true → is_in c g ≡ true
    → is_in b g ≡ true
    → ⊥ = λ c g e in_c in_b. both_ways _ (h.clear g in_b) (covered-marked rows c g e in_c) in
    record {
      orders = length-set rows b.order _ ∙ h.kept.orders;
      apart = λ x y g set_x set_y in_x in_y. elim (marked-with rows b x place set_x) [
        | inl new_x ↦ elim (marked-with rows b y place set_y) [
          | inl new_y ↦ ap (λ (z : Block). z.order) (new_x ∙ sym new_y)
          | inr old_y ↦ absurd (clear y g old_y in_y (subst (λ z. is_in z g ≡ true) new_x in_x))
        ]
        | inr old_x ↦ elim (marked-with rows b y place set_y) [
          | inl new_y ↦ absurd (clear x g old_x in_x (subst (λ z. is_in z g ≡ true) new_y in_y))
          | inr old_y ↦ tree.apart x y g old_x old_y in_x in_y
        ]
      ];
      unjoined = λ c lt e. false_from_ne_true _ (λ o. elim (marked-with rows b c place e) [
        | inl new ↦ elim (marked-with rows b (other_half c) place o) [
          | inl again ↦ apart-other c (start c) (is_in-start c) (subst
              (λ z. is_in z (start c) ≡ true) (new ∙ sym again) (is_in-start c))
          | inr old ↦ both_ways _ (alone (subst (λ (z : Block). z.order < top) new lt)) (subst
              (λ z. is_marked rows (other_half z) ≡ true) new old)
        ]
        | inr old ↦ elim (marked-with rows b (other_half c) place o) [
          | inl new ↦
              let other : other_half b ≡ c = ap other_half (sym new) ∙ other-other c in
              let lower : b.order < top = subst
              (λ (z : Block). z.order < top) new (omega (arith, other-order c)) in
              both_ways _ (alone lower) (ap (is_marked rows) other ∙ old)
          | inr both ↦ both_ways _ (tree.unjoined c lt old) both
        ]
      ]);
    }

pub hole-fill : (top limit : ℕ) (rows : List (List ℕ)) (b : Block) → IsHole top limit rows b
    → (b.order < top → is_marked rows (other_half b) ≡ false)
    → AreBitRows top limit (with_mark rows b)
hole-fill top limit rows b h alone =
    let place = hole-place top limit rows b h in
    record {
      orders = length-set rows b.order _ ∙ h.kept.orders;
      meaning = meaning-from top (with_mark rows b) (tree-with top limit rows b h alone);
      room = λ c le lt. omega (arith, h.kept.room c le lt, length-with rows b c.order place);
      below = λ g c. elim (or_cases (is_in b g) _ (sym (covered-with rows b g place) ∙ c)) [
        | inl here ↦ h.low g here
        | inr there ↦ h.kept.below g there
      ];
      small = h.kept.small;
    }

-- a part of what was taken
hole-part : (top limit : ℕ) (rows : List (List ℕ)) (b c : Block) → IsHole top limit rows b
    → c.order ≤ b.order → ((g : ℕ) → is_in c g ≡ true → is_in b g ≡ true) → IsHole top limit rows c
hole-part top limit rows b c h le part =
    record {
      kept = h.kept;
      small = omega (arith, h.small);
      clear = λ g e. h.clear g (part g e);
      low = λ g e. h.low g (part g e);
    }

-- one half stays, and the other is split further
hole-half : (top limit : ℕ) (rows : List (List ℕ)) (b c : Block) → IsHole top limit rows b
    → c.order ≤ b.order → ((g : ℕ) → is_in c g ≡ true → is_in b g ≡ true) → ((g : ℕ)
    → is_in (other_half c) g ≡ true → is_in b g ≡ true)
    → IsHole top limit (with_mark rows c) (other_half c)
hole-half top limit rows b c h le part other =
    let hole = hole-part top limit rows b c h le part in
    let place = hole-place top limit rows c hole in
    record {
      kept = hole-fill top limit rows c hole (λ _. false_from_ne_true _ (λ e.
          both_ways _ (h.clear (start (other_half c))
          (other (start (other_half c)) (is_in-start (other_half c))))
          (covered-marked rows (other_half c) (start (other_half c)) e
          (is_in-start (other_half c)))));
      small = omega (arith, hole.small, other-order c);
      clear = λ g e. covered-with rows c g place ∙ or_from (is_in c g) _ (false_from_ne_true _
          (λ both. apart-other c g both e)) (h.clear g (other g e));
      low = λ g e. h.low g (other g e);
    }

pub hole-left : (top limit : ℕ) (rows : List (List ℕ)) (b : Block) → IsHole top limit rows b
    → 0 < b.order → IsHole top limit (with_mark rows (right_half b)) (left_half b)
hole-left top limit rows b h pos =
    subst (IsHole top limit (with_mark rows (right_half b))) (other-right b)
    (hole-half top limit rows b (right_half b) h (omega (arith, order-right b))
    (λ g e. is_in-halves b g pos ∙ or_right (is_in (left_half b) g) _ e)
    (λ g e. is_in-halves b g pos ∙ or_left _ (is_in (right_half b) g) (ap
    (λ x. is_in x g) (sym (other-right b)) ∙ e)))

pub hole-right : (top limit : ℕ) (rows : List (List ℕ)) (b : Block) → IsHole top limit rows b
    → 0 < b.order → IsHole top limit (with_mark rows (left_half b)) (right_half b)
hole-right top limit rows b h pos =
    subst (IsHole top limit (with_mark rows (left_half b))) (other-left b)
    (hole-half top limit rows b (left_half b) h (omega (arith, order-left b))
    (λ g e. is_in-halves b g pos ∙ or_left _ (is_in (right_half b) g) e)
    (λ g e. is_in-halves b g pos ∙ or_right (is_in (left_half b) g) _ (ap
    (λ x. is_in x g) (sym (other-left b)) ∙ e)))

pub place-left : (top limit : ℕ) (rows : List (List ℕ)) (b : Block) → IsHole top limit rows b
    → 0 < b.order → HasPlace rows (left_half b)
place-left top limit rows b h pos =
    hole-place top limit rows (left_half b)
    (hole-part top limit rows b (left_half b) h (omega (arith, order-left b))
    (λ g e. is_in-halves b g pos ∙ or_left _ (is_in (right_half b) g) e))

pub place-right : (top limit : ℕ) (rows : List (List ℕ)) (b : Block) → IsHole top limit rows b
    → 0 < b.order → HasPlace rows (right_half b)
place-right top limit rows b h pos =
    hole-place top limit rows (right_half b)
    (hole-part top limit rows b (right_half b) h (omega (arith, order-right b))
    (λ g e. is_in-halves b g pos ∙ or_right (is_in (left_half b) g) _ e))

-- the other half is free too: the block above is then taken
pub hole-join : (top limit : ℕ) (rows : List (List ℕ)) (b : Block) → IsHole top limit rows b
    → b.order < top → is_marked rows (other_half b) ≡ true
    → IsHole top limit (without_mark rows (other_half b)) (block_above b)
hole-join top limit rows b h lt e =
    let o = other_half b in
    let place = marked-place rows o e in
    let out = hole-out top limit rows o h.kept e in
    let new = without_mark rows o in
    let less : (g : ℕ) → is_covered rows g ≡ false → is_in o g ≡ false → is_covered new g ≡ false =
    λ g none away. (or_parts (is_in o g) _ (covered-without rows o g place
    ∙ or_from (is_in o g) _ away none)).1
    in
    let parts : (g : ℕ) → is_in (block_above b) g ≡ true → (is_in b g ≡ true)
    ⊎ (is_in o g ≡ true) = λ g i. or_cases (is_in b g) _ (sym (in-above b g) ∙ i) in
    record {
      kept = out.kept;
      small = omega (arith, order-block_above b);
      clear = λ g i. elim (parts g i) [
        | inl here ↦ less g (h.clear g here) (false_from_ne_true _
            (λ there. apart-other b g here there))
        | inr there ↦ out.clear g there
      ];
      low = λ g i. elim (parts g i) [
        | inl here ↦ h.low g here
        | inr there ↦ out.low g there
      ];
    }

or_moved : (a b c d e : Bool) → a ≡ (b || d) → (d || c) ≡ (d || e) → (d ≡ true → e ≡ true)
    → (a || c) ≡ (b || e)
or_moved a true c true e p q r = ap (λ x. x || c) p
or_moved a true c false e p q r = ap (λ x. x || c) p
or_moved a false c true e p q r = ap (λ x. x || c) p ∙ sym (r refl)
or_moved a false c false e p q r = ap (λ x. x || c) p ∙ q

pub covered-join : (rows : List (List ℕ)) (b : Block) (g : ℕ)
    → is_marked rows (other_half b) ≡ true
    → (is_in (block_above b) g || is_covered (without_mark rows (other_half b)) g)
    ≡ (is_in b g || is_covered rows g)
covered-join rows b g e =
    or_moved (is_in (block_above b) g) (is_in b g) (is_covered (without_mark rows (other_half b)) g)
    (is_in (other_half b) g) (is_covered rows g)
    (in-above b g) (covered-without rows (other_half b) g (marked-place rows (other_half b) e))
    (covered-marked rows (other_half b) g e)

or_assoc : (a b c : Bool) → (a || (b || c)) ≡ ((a || b) || c)
or_assoc true b c = refl
or_assoc false b c = refl

or_split : (a b c : Bool) → (b || (a || c)) ≡ ((a || b) || c)
or_split true true c = refl
or_split true false c = refl
or_split false true c = refl
or_split false false c = refl

-- once a block is split into halves, the same granules are covered or taken
pub covered-left : (rows : List (List ℕ)) (b : Block) (g : ℕ) → HasPlace rows (right_half b)
    → 0 < b.order
    → (is_in (left_half b) g || is_covered (with_mark rows (right_half b)) g)
    ≡ (is_in b g || is_covered rows g)
covered-left rows b g place pos =
    ap (λ c. is_in (left_half b) g || c) (covered-with rows (right_half b) g place)
    ∙ or_assoc (is_in (left_half b) g) (is_in (right_half b) g) (is_covered rows g)
    ∙ ap (λ a. a || is_covered rows g) (sym (is_in-halves b g pos))

pub covered-right : (rows : List (List ℕ)) (b : Block) (g : ℕ) → HasPlace rows (left_half b)
    → 0 < b.order
    → (is_in (right_half b) g || is_covered (with_mark rows (left_half b)) g)
    ≡ (is_in b g || is_covered rows g)
covered-right rows b g place pos =
    ap (λ c. is_in (right_half b) g || c) (covered-with rows (left_half b) g place)
    ∙ or_split (is_in (left_half b) g) (is_in (right_half b) g) (is_covered rows g)
    ∙ ap (λ a. a || is_covered rows g) (sym (is_in-halves b g pos))

-- a block whose bit is set was covered already
pub covered-out : (rows : List (List ℕ)) (b : Block) (g : ℕ) → is_marked rows b ≡ true
    → (is_in b g || is_covered (without_mark rows b) g) ≡ is_covered rows g
covered-out rows b g e =
    covered-without rows b g (marked-place rows b e)
    ∙ absorbed (is_in b g) (is_covered rows g) (covered-marked rows b g e)
  where
    absorbed : (a c : Bool) → (a ≡ true → c ≡ true) → (a || c) ≡ c
    absorbed true c h = sym (h refl)
    absorbed false c h = refl

-- what is left after a part of a whole is taken
pub without_part : (a c o : Bool) → (a || c) ≡ o → (a ≡ true → c ≡ false) → c ≡ (o && not a)
without_part true c o e h = h refl ∙ ap (λ x. x && false) e
without_part false c o e h = e ∙ and_true o
  where
    and_true : (x : Bool) → x ≡ (x && true)
    and_true true = refl
    and_true false = refl
