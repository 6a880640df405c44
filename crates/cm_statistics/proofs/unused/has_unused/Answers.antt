use Rattle.std.proofs.Common.{arith, ap}
use Rattle.cm_pool.specs.Geometry.{Sizes}
use Rattle.cm_statistics.proofs.Aligned.{in_root}
use Rattle.cm_statistics.proofs.unused.has_unused.Goals as goal

pub returns-clause-has : goal.returns-clause-has
returns-clause-has c = (
  λ no. absurd (cc),
  λ h.
      let i = in_root c.args.rows.now c.args.order h in
      let below = i.below in
      let roots = ap (λ (s : Sizes). s.roots) c.requires.sizes in
      let all = c.loop-before-test.false in
      let last = c.roots-before-end.ensures.value in
      absurd (c.loop-before.invariant.none i.root (omega (arith, below, roots))
      (omega (arith, below, roots, all, last)) i.has),
)
