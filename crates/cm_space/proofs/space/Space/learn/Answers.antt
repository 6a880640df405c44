use Rattle.std.proofs.Common.{◌≡◌, sym, subst}
use Rattle.cm_space.specs.Space.{space_state, learnt}
use Rattle.cm_space.specs.Ownership.{IsSpace}
use Rattle.cm_space.proofs.Spaces.{learned, waiting-held}
use Rattle.cm_space.proofs.space.Space.learn.Goals as goal

pub free_due-requires-clause-held : goal.free_due-requires-clause-held
free_due-requires-clause-held c =
    let a = c.self.inside in
    waiting-held (space_state a.pool a.arenas.entries a.waiting.items) c.self.invariant

pub invariant_of-self : goal.invariant_of-self
invariant_of-self c =
    let a = c.self.inside in
    let old = space_state a.pool a.arenas.entries a.waiting.items in
    let is : space_state c.free_due.new.pool a.arenas.entries c.free_due.new.waiting.items
    ≡ learnt old c.args.number =
    λ i. record {
      pool = c.free_due.ensures.pool i;
      arenas = old.arenas;
      waiting = c.free_due.ensures.waiting i;
    } in
    subst IsSpace (sym is) (learned old c.args.number c.self.invariant)
