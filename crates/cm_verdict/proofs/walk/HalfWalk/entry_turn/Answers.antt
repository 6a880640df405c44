use Rattle.std.proofs.Common.{◌+◌, ap, ◌∙◌, arith}
use Rattle.cm_rows.specs.Rows.{LiveRows, is_above}
use Rattle.cm_rows.proofs.{above_entry}
use Rattle.cm_verdict.specs.declared.defined_at.DefinedAt.{DefinedAt}
use Rattle.cm_verdict.proofs.walk.HalfWalk.entry_turn.Goals as goal

pub returns-clause-steady : goal.returns-clause-steady
returns-clause-steady c =
    let old = c.args.self.now in
    let s = c.requires.steady in
    let taken = (c.in-Some.ensures {u = tt}).taken in
    let k = c.in_default-apply.ensures {u = tt} in
    record {
      sizes = ap (λ (b : LiveRows DefinedAt). b.sizes) k.left ∙ s.sizes;
      above = ap (λ (b : LiveRows DefinedAt). is_above (old.number + 1 + 1) b.rows) k.left
          ∙ above_entry old.book.sizes old.number old.book.rows c.placed_entry-entry.result
          k.broken s.above;
      number = omega (arith, s.number, taken.some, c.slots-taken.ensures);
      slot = omega (arith, s.slot, taken.few, c.requires.slots, c.slots-taken.ensures);
      slots = s.slots;
      first = s.first;
    }
