use Rattle.std.proofs.Common.{subst, sym, arith}
use Rattle.cm_group.specs.Groups.{Handed, IsContinuedBy}
use Rattle.cm_group.specs.contracts.group.Group.{the_view as view}
use Rattle.cm_group.proofs.Joining.{room_for, with_group}
use Rattle.cm_group.proofs.group.Group.add.Goals as goal

pub unwrap-requires : goal.unwrap-requires
unwrap-requires c =
    let goes = c.goes_on.ensures.0 c.if-not-goes_on.false in
    let here = subst (λ (g : Handed). IsContinuedBy g c.args.other) (sym c.self.view_is) goes in
    let both = subst (λ (g : Handed). IsContinuedBy (view c.self.inside) g) (sym c.other.view_is)
    here in
    let room = room_for _ _ _ _ _ _ c.self.invariant c.other.invariant both in
    c.append.ensures.succeeds (omega (arith, room))

pub invariant_of-self : goal.invariant_of-self
invariant_of-self c =
    let goes = c.goes_on.ensures.0 c.if-not-goes_on.false in
    let here = subst (λ (g : Handed). IsContinuedBy g c.args.other) (sym c.self.view_is) goes in
    let both = subst (λ (g : Handed). IsContinuedBy (view c.self.inside) g) (sym c.other.view_is)
    here in
    with_group _ _ _ _ _ _ _ _ _ c.self.invariant c.other.invariant both
    c.append.ensures.capacity c.max-self-inside.ensures
    (rw c.unwrap.ensures at c.append.ensures.items)
