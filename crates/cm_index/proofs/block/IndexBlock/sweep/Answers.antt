use Rattle.std.proofs.Common.{length, arith, ap}
use Rattle.cm_index.proofs.Sweeping.{fewer-swept}
use Rattle.cm_index.proofs.block.IndexBlock.sweep.Goals as goal

pub invariant_of-self : goal.invariant_of-self
invariant_of-self g c =
    let slots = c.args.slots.now in
    let places = c.args.places.now in
    let fewer = fewer-swept slots places c.self.inside.entries.items in (
      omega (arith, fewer, ap length c.sweep_entries.ensures.entries, c.self.invariant.0),
      omega (arith, c.sweep_entries.ensures.capacity, c.self.invariant.1),
    )
