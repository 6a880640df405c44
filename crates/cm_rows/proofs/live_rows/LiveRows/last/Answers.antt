use Rattle.std.proofs.Common.{◌≡◌, None, sym}
use Rattle.cm_rows.specs.Rows.{last_of}
use Rattle.cm_rows.proofs.Verdicts.{last-at, last-absent}
use Rattle.cm_index.specs.Living.{living}
use Rattle.cm_rows.proofs.KeptPlaces.{stands, at-living, same-kept}
use Rattle.cm_rows.proofs.live_rows.LiveRows.last.Goals as goal

pub returns-in_err-at : goal.returns-in_err-at
returns-in_err-at g c =
    let absent = rw c.deref.ensures.value at c.in_err-at.ensures.absent in
    let rows = (living c.self.inside.rows.indexed.slots.items) in
    let none : last_of c.args.number rows ≡ None =
    last-absent rows (living c.self.inside.loaders.slots.items) c.args.number
    c.self.invariant.0.loaders absent in
    rw (← c.self.view_is, none) c.from_residual.ensures

pub returns : goal.returns
returns g c =
    let ls = c.self.inside.loaders.slots.items in
    let u = c.args.number in
    let found = rw c.deref.ensures.value at c.in_ok-at.ensures.found in
    let at = stands ls u c.in_ok-at.at found in
    rw (← c.self.view_is) (sym (last-at (living c.self.inside.rows.indexed.slots.items) (living ls)
    u
    at.place c.index.result.now.item c.self.invariant.0.loaders
    (at-living ls u c.in_ok-at.at found at) (same-kept ls c.in_ok-at.at at c.index.result.now
    c.index.ensures)))
