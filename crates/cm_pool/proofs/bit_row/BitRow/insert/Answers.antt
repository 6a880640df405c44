use Rattle.std.proofs.Common.{◌*◌, ◌<◌, List, length, sym, subst}
use Rattle.std.proofs.Common.{ℕ}
use Rattle.cm_pool.proofs.BitFacts.{row-with}
use Rattle.cm_pool.proofs.bit_row.BitRow.insert.Goals as goal

pub invariant_of-self : goal.invariant_of-self
invariant_of-self c =
    let a = c.self.inside in
    let within : c.args.at < 64 * length a.words.items = subst
    (λ (ws : List ℕ). c.args.at < 64 * length ws) (sym c.self.view_is) c.requires in
    rw (c.set_bit.ensures, c.set_bit-2.ensures, c.set_bit-3.ensures)
    (row-with a.words.items a.groups.items a.heads.items c.args.at c.self.invariant within)
