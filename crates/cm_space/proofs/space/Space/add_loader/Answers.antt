use Rattle.std.proofs.Common.{◌≡◌, [], sym, ap, ◌∙◌, subst}
use Rattle.cm_space.specs.Space.{with_arena, space_state}
use Rattle.cm_space.specs.Ownership.{IsSpace}
use Rattle.cm_space.proofs.Spaces.{added}
use Rattle.cm_space.proofs.Views.{more, not_known}
use Rattle.cm_space.proofs.space.Space.add_loader.Goals as goal
use Rattle.cm_space.proofs.space.Space.add_loader.Goals.{In_ok-insert}

new : (c : In_ok-insert)
    → space_state c.self.inside.pool c.insert.new.self.entries c.self.inside.waiting.items
    ≡ with_arena c.args.self.now c.args.loader []
new c =
    let a = c.self.inside in
    more a.pool a.arenas.entries c.insert.new.self.entries a.waiting.items c.args.self.now
    c.args.loader c.new.result c.self.view_is c.in_ok-insert.ensures.updates.0
    ∙ ap (with_arena c.args.self.now c.args.loader) c.new.ensures

pub invariant_of-self-2 : goal.invariant_of-self-2
invariant_of-self-2 c =
    subst IsSpace (sym (new (goal.at.invariant_of-self-2 c).In_ok-insert))
    (added c.args.self.now c.args.loader (not_known c.args.self.now c.args.loader c.requires)
    (subst IsSpace c.self.view_is c.self.invariant))

pub returns-clause-ok : goal.returns-clause-ok
returns-clause-ok c = new (goal.at.returns-clause-ok c).In_ok-insert
