use Rattle.std.proofs.Common.{ℕ, ◌-◌, List, arith, subst, refl}
use Rattle.cm_rows.specs.Rows.{LiveRows}
use Rattle.cm_statistics.specs.Unused.{HasUnused}
use Rattle.cm_statistics.proofs.unused.largest_unused.Goals as goal

pub returns-then-has_unused-clause-largest : goal.returns-then-has_unused-clause-largest
returns-then-has_unused-clause-largest c =
    let has = c.if-has_unused.ensures.has in
    let same = c.loop-below.invariant.same in
    let top = c.top.ensures.value in
    let within = c.loop-below-test.true in (
      subst (λ (rows : LiveRows (List ℕ)). HasUnused rows (c.top.result - c.loop-below.below)) same
          (has.0 refl),
      λ order above h. c.loop-below.invariant.none order (omega (arith, above, top)) h,
    )
