use Rattle.std.proofs.Common.{◌≡◌, ◌<◌, ◌+◌, sym, ap, ◌∙◌, subst, arith}
use Rattle.cm_pool.specs.FreeSpace.{with_root}
use Rattle.cm_pool.specs.Rows.{HasPlace, with_mark, IsPool, space_of}
use Rattle.cm_pool.proofs.Pools.{root_block, root-hole, root-added, root-space}
use Rattle.cm_pool.proofs.Trees.{hole-place}
use Rattle.cm_pool.proofs.pool.Pool.add_root.Goals as goal
use Rattle.cm_pool.proofs.pool.Pool.add_root.Goals.{Else-self-roots, After-top}

below : (c : Else-self-roots) → c.self.inside.roots < c.self.inside.geometry.roots
below c = omega (arith, c.roots.ensures.value)

place : (c : Else-self-roots)
    → HasPlace c.self.inside.rows.items (root_block c.self.inside.geometry c.self.inside.roots)
place c =
    let a = c.self.inside in
    hole-place a.geometry.top _ a.rows.items (root_block a.geometry a.roots)
    (root-hole a.geometry a.roots a.rows.items c.self.invariant (below c))

-- the block in the code
is_root : (c : After-top)
    → record { index = c.self.inside.roots; order = c.top.result }
    ≡ root_block c.self.inside.geometry c.self.inside.roots
is_root c = λ i. record { index = c.self.inside.roots; order = c.top.ensures.value i }

pub mark-requires : goal.mark-requires
mark-requires c =
    let at = goal.at.mark-requires c in
    subst (HasPlace c.self.inside.rows.items) (sym (is_root at.After-top))
    (place at.Else-self-roots)

pub invariant_of-self : goal.invariant_of-self
invariant_of-self c =
    let a = c.self.inside in
    let at = goal.at.invariant_of-self c in
    let new : c.mark.new.rows.items ≡ with_mark a.rows.items (root_block a.geometry a.roots) =
    c.mark.ensures ∙ ap (with_mark a.rows.items) (is_root at.After-top) in
    subst (IsPool a.geometry (a.roots + 1)) (sym new)
    (root-added a.geometry a.roots a.rows.items c.self.invariant (below at.Else-self-roots))

pub returns-clause-left : goal.returns-clause-left
returns-clause-left c =
    let a = c.self.inside in
    let at = goal.at.returns-clause-left c in
    let new : c.mark.new.rows.items ≡ with_mark a.rows.items (root_block a.geometry a.roots) =
    c.mark.ensures ∙ ap (with_mark a.rows.items) (is_root at.After-top) in
    ap (space_of a.geometry (a.roots + 1)) new
    ∙ root-space a.geometry a.roots a.rows.items (place at.Else-self-roots)
    ∙ ap with_root c.self.view_is
