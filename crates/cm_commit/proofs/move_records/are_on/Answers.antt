use Rattle.std.proofs.Common.{◌≡◌, ℕ, ◌-◌, List, map, take, sym, ap, ◌∙◌, arith}
use Rattle.cm_group.specs.Groups.{Carried}
use Rattle.std.specs.Arc.{arc_value}
use Rattle.cm_layout.specs.Rows.{rows_with}
use Rattle.cm_commit.specs.Joining.{committed_on, records_after, records_then}
use Rattle.cm_commit.proofs.MovedWalk.{records-step, step-back, no-step}
use Rattle.cm_commit.proofs.move_records.are_on.Goals as goal
use Rattle.cm_commit.proofs.move_records.are_on.Goals.{After-then_on}

-- the records by the entries that are left, and by those and the current one
abbrev by_left : After-then_on → ℕ → List (List ℕ)
by_left c count =
    records_after c.args.entry.now.from
    (committed_on c.args.entry.now.loader c.args.entry.now.from
    (rows_with arc_value c.args.rows.now.rows)) (take count c.args.before.now)

step : (c : After-then_on)
    → by_left c c.loop-count.count
    ≡ records_then c.args.entry.now.from (by_left c (c.loop-count.count - 1))
    c.index-before-count.result.entry c.index-before-count.result.moved
step c =
    let from = c.args.entry.now.from in
    let n = c.loop-count.count - 1 in
    records-step from
    (committed_on c.args.entry.now.loader from (rows_with arc_value c.args.rows.now.rows))
    c.args.before.now c.loop-count.count n c.index-before-count.result
    (omega (arith, c.loop-count-test.true))
    (omega (arith, c.loop-count-test.true, c.loop-count.invariant.within))
    ∙ ap (λ (k : Carried). records_then from (by_left c n) k.entry k.moved)
    (sym c.index-before-count.is)

pub loop-count-preserved-in-Same : goal.loop-count-preserved-in-Same
loop-count-preserved-in-Same c =
    let at = (goal.at.loop-count-preserved-in-Same c).After-then_on in
    let is : by_left at c.loop-count.count ≡ by_left at (c.loop-count.count - 1) =
    step at ∙ c.in-Same.ensures (by_left at (c.loop-count.count - 1)) in
    let same = c.loop-count.invariant.same in
    record {
      within = omega (arith, c.loop-count.invariant.within);
      same = (λ e. same.0 e ∙ is, λ e. same.1 (e ∙ sym is));
    }

pub loop-count-preserved : goal.loop-count-preserved
loop-count-preserved c =
    let at = (goal.at.loop-count-preserved c).After-then_on in
    let before = by_left at (c.loop-count.count - 1) in
    let is = step at ∙ c.in-More.ensures before in
    let same = c.loop-count.invariant.same in
    let back = step-back (map arc_value c.loop-count.left.now) (by_left at c.loop-count.count)
    (map arc_value c.in-Some.rest.now) before c.in-More.last.now c.in-Some.ensures is in
    record {
      within = omega (arith, c.loop-count.invariant.within);
      same = (λ e. back.0 (same.0 e), λ e. same.1 (back.1 e));
    }

pub returns-in-None : goal.returns-in-None
returns-in-None c =
    let at = (goal.at.returns-in-None c).After-then_on in
    let before = by_left at (c.loop-count.count - 1) in
    let is = step at ∙ c.in-More.ensures before in (
      λ t. absurd (cc),
      λ e. absurd (no-step (map arc_value c.loop-count.left.now) (by_left at c.loop-count.count)
          before c.in-More.last.now c.in-None.ensures is (c.loop-count.invariant.same.0 e)),
    )

pub returns-in-First : goal.returns-in-First
returns-in-First c =
    let at = (goal.at.returns-in-First c).After-then_on in
    let is = step at ∙ c.in-First.ensures (by_left at (c.loop-count.count - 1)) in
    let same = c.loop-count.invariant.same in (
      λ t. same.1 (c.is_alone.ensures.0 t ∙ sym is),
      λ e. c.is_alone.ensures.1 (same.0 e ∙ is),
    )

pub returns-in-All : goal.returns-in-All
returns-in-All c =
    let at = (goal.at.returns-in-All c).After-then_on in
    let is = step at ∙ c.in-All.ensures (by_left at (c.loop-count.count - 1)) in
    let same = c.loop-count.invariant.same in (
      λ t. same.1 (c.are_same.ensures.0 t ∙ sym is),
      λ e. c.are_same.ensures.1 (same.0 e ∙ is),
    )
