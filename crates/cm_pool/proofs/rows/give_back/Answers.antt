use Rattle.std.proofs.Common.{◌≡◌, ℕ, ◌<◌, ◌||◌, true, false, List, refl, sym, ap, ◌∙◌, subst}
use Rattle.std.proofs.Common.{arith}
use Rattle.std.proofs.lemmas.Bool.{both_ways, false_from_ne_true}
use Rattle.cm_pool.specs.Blocks.{is_in, other_half}
use Rattle.cm_pool.specs.Rows.{is_marked, is_covered, without_mark, HasPlace, AreBitRows}
use Rattle.cm_pool.proofs.Marks.{marked-place, covered-with}
use Rattle.cm_pool.proofs.Trees.{IsHole, hole-place, hole-join, hole-fill, covered-join}
use Rattle.cm_pool.proofs.rows.give_back.Goals as goal
use Rattle.cm_pool.proofs.rows.give_back.Goals.{After-joins}

pub loop-rows-init : goal.loop-rows-init
loop-rows-init c = record {
  hole = λ limit kept low. record {
    kept = kept;
    small = c.requires.order;
    clear = c.requires.taken;
    low = low;
  };
  covered = λ g. refl;
}

joined : (c : After-joins) → c.joins.result ≡ true → (c.loop-rows.block.order < c.args.top)
    × (is_marked c.loop-rows.rows.items (other_half c.loop-rows.block) ≡ true)
joined c e =
    subst (λ (rows : List (List ℕ)). (c.loop-rows.block.order < c.args.top)
    × (is_marked rows (other_half c.loop-rows.block) ≡ true)) c.deref.ensures.value
    (c.joins.ensures.0 e)

alone : (c : After-joins) → c.joins.result ≡ false → c.loop-rows.block.order < c.args.top
    → is_marked c.loop-rows.rows.items (other_half c.loop-rows.block) ≡ false
alone c e lt = false_from_ne_true _ (λ set.
    both_ways _ e (c.joins.ensures.1 (
      lt,
      subst
          (λ (rows : List (List ℕ)). is_marked rows (other_half c.loop-rows.block) ≡ true)
          (sym c.deref.ensures.value) set,
    )))

hole : (c : After-joins)
    → IsHole c.args.top c.requires.kept.0 c.loop-rows.rows.items c.loop-rows.block
hole c = c.loop-rows.invariant.hole c.requires.kept.0 c.requires.kept.1 c.requires.kept.2

pub parent-block-requires : goal.parent-block-requires
parent-block-requires c =
    omega (
      arith,
      c.requires.top,
      (joined (goal.at.parent-block-requires c).After-joins c.loop-rows-test.true).0,
    )

pub unmark-requires : goal.unmark-requires
unmark-requires c =
    subst (HasPlace c.loop-rows.rows.items) (sym c.other_half.ensures)
    (marked-place c.loop-rows.rows.items (other_half c.loop-rows.block)
    (joined (goal.at.unmark-requires c).After-joins c.loop-rows-test.true).1)

pub loop-rows-preserved : goal.loop-rows-preserved
loop-rows-preserved c =
    let rows = c.loop-rows.rows.items in
    let b = c.loop-rows.block in
    let join = joined (goal.at.loop-rows-preserved c).After-joins c.loop-rows-test.true in
    let above = c.parent-block.ensures.above in
    let new : c.unmark.new.rows.items ≡ without_mark rows (other_half b) =
    c.unmark.ensures ∙ ap (without_mark rows) c.other_half.ensures in
    record {
      hole = λ limit kept low. subst
          (λ (rs : List (List ℕ)). IsHole c.args.top limit rs c.parent-block.result) (sym new)
          (subst (IsHole c.args.top limit (without_mark rows (other_half b))) (sym above)
          (hole-join c.args.top limit rows b (c.loop-rows.invariant.hole limit kept low)
          join.0 join.1));
      covered = λ g.
          (λ i. is_in (above i) g || is_covered (new i) g) ∙ covered-join rows b g join.1
          ∙ c.loop-rows.invariant.covered g;
    }

pub loop-rows-smaller : goal.loop-rows-smaller
loop-rows-smaller c =
    omega (
      arith,
      (joined (goal.at.loop-rows-smaller c).After-joins c.loop-rows-test.true).0,
      c.parent-block.ensures.order,
    )

pub mark-requires : goal.mark-requires
mark-requires c =
    hole-place c.args.top c.requires.kept.0 c.loop-rows.rows.items c.loop-rows.block
    (hole (goal.at.mark-requires c).After-joins)

pub returns-clause-kept : goal.returns-clause-kept
returns-clause-kept c = λ limit kept low.
    subst (AreBitRows c.args.top limit) (sym c.mark.ensures)
    (hole-fill c.args.top limit c.loop-rows.rows.items c.loop-rows.block
    (c.loop-rows.invariant.hole limit kept low)
    (alone (goal.at.returns-clause-kept c).After-joins c.loop-rows-test.false))

pub returns-clause-covered : goal.returns-clause-covered
returns-clause-covered c = λ g.
    let place =
    hole-place c.args.top c.requires.kept.0 c.loop-rows.rows.items c.loop-rows.block
    (hole (goal.at.returns-clause-covered c).After-joins) in
    ap (λ (rows : List (List ℕ)). is_covered rows g) c.mark.ensures
    ∙ covered-with c.loop-rows.rows.items c.loop-rows.block g place
    ∙ c.loop-rows.invariant.covered g
