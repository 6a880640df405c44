use Rattle.std.proofs.Common.{◌≡◌, ℕ, ◌^◌, ◌<◌, ◌||◌, ◌&&◌, not, List, sym, ap, ◌∙◌, subst, inl}
use Rattle.std.proofs.Common.{inr, arith}
use Rattle.std.proofs.lemmas.Bool.{both_ways}
use Rattle.cm_pool.specs.Blocks.{is_in, start, Inside, left_half, right_half}
use Rattle.cm_pool.specs.Rows.{is_covered, with_mark, HasPlace}
use Rattle.cm_pool.proofs.Dyadic.{is_in-start, inside-half, inside-same_order, index-below}
use Rattle.cm_pool.proofs.Trees.{IsHole, hole-out, hole-left, hole-right, place-left, place-right}
use Rattle.cm_pool.proofs.Trees.{covered-out, covered-left, covered-right, without_part}
use Rattle.cm_pool.proofs.rows.take_out.Goals as goal
use Rattle.cm_pool.proofs.rows.take_out.Goals.{In-loop-block}

pub loop-block-init : goal.loop-block-init
loop-block-init c =
    let rows = c.args.rows.now.items in
    record {
      hole = λ top limit kept. subst
          (λ (new : List (List ℕ)). IsHole top limit new c.args.from) (sym c.unmark.ensures)
          (hole-out top limit rows c.args.from kept c.requires.from);
      inside = c.requires.inside;
      covered = λ g. ap
          (λ (new : List (List ℕ)). is_in c.args.from g || is_covered new g) c.unmark.ensures
          ∙ covered-out rows c.args.from g c.requires.from;
    }

hole : (c : In-loop-block)
    → IsHole c.requires.kept.0 c.requires.kept.1 c.loop-block.rows.items c.loop-block.block
hole c = c.loop-block.invariant.hole c.requires.kept.0 c.requires.kept.1 c.requires.kept.2

pub halves-requires-clause-fits : goal.halves-requires-clause-fits
halves-requires-clause-fits c =
    let h = hole (goal.at.halves-requires-clause-fits c).In-loop-block in
    let b = c.loop-block.block in
    omega (
      arith,
      index-below b (2 ^ 20)
          (omega (arith, h.low (start b) (is_in-start b), h.kept.small)),
    )

pub holds-requires : goal.holds-requires
holds-requires c =
    let h = hole (goal.at.holds-requires c).In-loop-block in
    omega (
      arith,
      h.small,
      c.requires.kept.2.orders,
      c.requires.orders,
      c.args.rows.now.ok.0,
      c.halves.ensures.orders,
    )

pub mark-requires : goal.mark-requires
mark-requires c =
    let h = hole (goal.at.mark-requires c).In-loop-block in
    subst (HasPlace c.loop-block.rows.items) (sym c.halves.ensures.right)
    (place-right c.requires.kept.0 c.requires.kept.1 c.loop-block.rows.items c.loop-block.block h
    (omega arith))

pub mark-requires-else-holds : goal.mark-requires-else-holds
mark-requires-else-holds c =
    let h = hole (goal.at.mark-requires-else-holds c).In-loop-block in
    subst (HasPlace c.loop-block.rows.items) (sym c.halves.ensures.left)
    (place-left c.requires.kept.0 c.requires.kept.1 c.loop-block.rows.items c.loop-block.block h
    (omega arith))

pub loop-block-preserved-then-holds : goal.loop-block-preserved-then-holds
loop-block-preserved-then-holds c =
    let rows = c.loop-block.rows.items in
    let b = c.loop-block.block in
    let left = c.halves.ensures.left in
    let pos : 0 < b.order = omega arith in
    let h = hole (goal.at.loop-block-preserved-then-holds c).In-loop-block in
    let place = place-right c.requires.kept.0 c.requires.kept.1 rows b h pos in
    let new : c.mark.new.rows.items ≡ with_mark rows (right_half b) =
    c.mark.ensures ∙ ap (with_mark rows) c.halves.ensures.right in
    record {
      hole = λ top limit kept. subst
          (λ (rs : List (List ℕ)). IsHole top limit rs c.halves.result.0) (sym new)
          (subst (IsHole top limit (with_mark rows (right_half b))) (sym left)
          (hole-left top limit rows b (c.loop-block.invariant.hole top limit kept) pos));
      inside = c.holds.ensures.0 c.if-holds.true;
      covered = λ g.
          (λ i. is_in (left i) g || is_covered (new i) g) ∙ covered-left rows b g place pos
          ∙ c.loop-block.invariant.covered g;
    }

pub loop-block-preserved : goal.loop-block-preserved
loop-block-preserved c =
    let rows = c.loop-block.rows.items in
    let b = c.loop-block.block in
    let right = c.halves.ensures.right in
    let pos : 0 < b.order = omega arith in
    let h = hole (goal.at.loop-block-preserved c).In-loop-block in
    let place = place-left c.requires.kept.0 c.requires.kept.1 rows b h pos in
    let new : c.mark-else-holds.new.rows.items ≡ with_mark rows (left_half b) =
    c.mark-else-holds.ensures ∙ ap (with_mark rows) c.halves.ensures.left in
    record {
      hole = λ top limit kept. subst
          (λ (rs : List (List ℕ)). IsHole top limit rs c.halves.result.1) (sym new)
          (subst (IsHole top limit (with_mark rows (left_half b))) (sym right)
          (hole-right top limit rows b (c.loop-block.invariant.hole top limit kept) pos));
      inside =
          elim (inside-half c.args.wanted b c.loop-block.invariant.inside c.loop-block-test.true) [
            | inl in_left ↦ absurd (both_ways _ c.if-holds.false
                (c.holds.ensures.1 (subst (Inside c.args.wanted)
                (sym c.halves.ensures.left) in_left)))
            | inr in_right ↦ subst (Inside c.args.wanted) (sym right) in_right
          ];
      covered = λ g.
          (λ i. is_in (right i) g || is_covered (new i) g) ∙ covered-right rows b g place pos
          ∙ c.loop-block.invariant.covered g;
    }

pub returns-clause-kept : goal.returns-clause-kept
returns-clause-kept c = λ top limit kept. (c.loop-block.invariant.hole top limit kept).kept

pub returns-clause-covered : goal.returns-clause-covered
returns-clause-covered c = λ g.
    let b = c.loop-block.block in
    let rows = c.loop-block.rows.items in
    let whole =
    inside-same_order c.args.wanted b c.loop-block.invariant.inside
    (omega (arith, c.loop-block.invariant.inside.smaller)) in
    let h = c.loop-block.invariant.hole c.requires.kept.0 c.requires.kept.1 c.requires.kept.2 in
    subst (λ w. is_covered rows g ≡ (is_covered c.args.rows.now.items g && not (is_in w g)))
    (sym whole)
    (without_part (is_in b g) (is_covered rows g) (is_covered c.args.rows.now.items g)
    (c.loop-block.invariant.covered g) (h.clear g))
