use Rattle.std.proofs.Common.{◌≡◌, sym, subst}
use Rattle.cm_space.specs.Space.{empty_space, space_state}
use Rattle.cm_space.specs.Ownership.{IsSpace}
use Rattle.cm_space.proofs.Spaces.{none}
use Rattle.cm_space.proofs.space.Space.new.Goals as goal

pub invariant_of-result : goal.invariant_of-result
invariant_of-result c =
    let is : space_state c.in_ok-pool.pool c.new-2.result.entries c.new-3.result.items
    ≡ empty_space c.args.geometry =
    λ i. space_state (c.in_ok-pool.ensures i) (c.new-2.ensures.empty i) (c.new-3.ensures.items i) in
    subst IsSpace (sym is) (none c.args.geometry)
