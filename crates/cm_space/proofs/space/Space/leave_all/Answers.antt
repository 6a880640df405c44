use Rattle.std.proofs.Common.{◌≡◌, ap, ◌∙◌, sym, subst}
use Rattle.std.specs.List.{AllByRecursion}
use Rattle.cm_space.specs.Space.{SpaceState, IsKnown, left_by_all, space_state}
use Rattle.cm_space.specs.Ownership.{IsSpace}
use Rattle.cm_space.proofs.Spaces.{left-all}
use Rattle.cm_space.proofs.space.Space.leave_all.Goals as goal
use Rattle.cm_space.proofs.space.Space.leave_all.Goals.{After-leave_each}

pub leave_each-requires-clause-known : goal.leave_each-requires-clause-known
leave_each-requires-clause-known c =
    subst (λ (s : SpaceState). AllByRecursion (IsKnown s) c.args.loaders.now)
    (sym c.self.view_is) c.requires.known

new : (c : After-leave_each)
    → space_state c.self.inside.pool c.leave_each.new.arenas.entries c.leave_each.new.waiting.items
    ≡ left_by_all c.args.self.now c.args.number c.args.loaders.now
new c =
    let a = c.self.inside in
    c.leave_each.ensures a.pool
    ∙ ap (λ ws. left_by_all (space_state a.pool a.arenas.entries ws) c.args.number
    c.args.loaders.now)
    c.reserve.ensures.items
    ∙ ap (λ s. left_by_all s c.args.number c.args.loaders.now) c.self.view_is

pub invariant_of-self-2 : goal.invariant_of-self-2
invariant_of-self-2 c =
    let at = (goal.at.invariant_of-self-2 c).After-leave_each in
    subst IsSpace (sym (new at))
    (left-all c.args.self.now c.args.number c.args.loaders.now c.requires.known c.requires.differ
    c.requires.last (subst IsSpace c.self.view_is c.self.invariant))

pub returns-clause-ok : goal.returns-clause-ok
returns-clause-ok c = new ((goal.at.returns-clause-ok c).After-leave_each)
