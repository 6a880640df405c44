use Rattle.cm_index.specs.Living.{living}
use Rattle.cm_rows.proofs.Verdicts.{full-is}
use Rattle.cm_rows.proofs.live_rows.LiveRows.is_full.Goals as goal

pub returns : goal.returns
returns g c =
    let i = c.self.inside in
    rw (← c.self.view_is)
    (full-is i.geometry (living i.rows.indexed.slots.items) c.row_limit.result i.taken c.args.need
    c.row_limit.ensures c.self.invariant.5 c.self.invariant.0.few)
