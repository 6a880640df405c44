use Rattle.std.proofs.Common.{◌≡◌, List, Some, None, sym, ap, ◌∙◌}
use Rattle.std.specs.Option.{option_map}
use Rattle.cm_layout.specs.Rows.{kept_on}
use Rattle.cm_index.specs.declared.slot.BookSlot.{BookSlot}
use Rattle.cm_index.specs.Living.{living}
use Rattle.cm_layout.specs.declared.row.Row.{Row}
use Rattle.cm_rows.specs.Links.{rows_to}
use Rattle.cm_rows.specs.Rows.{last_of}
use Rattle.cm_rows.specs.declared.live_loader.LastChunk.{LastChunk}
use Rattle.cm_rows.proofs.Backward.{newest-goes}
use Rattle.cm_rows.proofs.KeptPlaces.{stands, at-living, same-kept}
use Rattle.cm_rows.proofs.Placed.{last-at-place}
use Rattle.cm_rows.proofs.Verdicts.{last-at, last-absent}
use Rattle.cm_rows.proofs.live_rows.LiveRows.last_kept.Goals as goal

pub returns-in_err-at : goal.returns-in_err-at
returns-in_err-at g c =
    let rows = living c.self.inside.rows.indexed.slots.items in
    let absent = rw c.deref.ensures.value at c.in_err-at.ensures.absent in
    let none : last_of c.args.number rows ≡ None =
    last-absent rows (living c.self.inside.loaders.slots.items) c.args.number
    c.self.invariant.0.loaders absent in
    rw (← c.self.view_is) (c.from_residual.ensures
    ∙ sym (ap (option_map (λ (l : LastChunk). kept_on l.chunk rows)) none))

pub returns-in_err-last : goal.returns-in_err-last
returns-in_err-last g c =
    let a = c.self.inside in
    let rows = living a.rows.indexed.slots.items in
    let ls = a.loaders.slots.items in
    let u = c.args.number in
    let found = rw c.deref.ensures.value at c.in_ok-at.ensures.found in
    let at = stands ls u c.in_ok-at.at found in
    let none : last_of u rows ≡ None =
    last-at rows (living ls) u at.place c.index.result.now.item c.self.invariant.0.loaders
    (at-living ls u c.in_ok-at.at found at)
    (same-kept ls c.in_ok-at.at at c.index.result.now c.index.ensures)
    ∙ c.in_err-last.was in
    rw (← c.self.view_is) (c.from_residual-in_err-last.ensures
    ∙ sym (ap (option_map (λ (l : LastChunk). kept_on l.chunk rows)) none))

pub from_newest-requires : goal.from_newest-requires
from_newest-requires g c =
    let a = c.self.inside in
    let slots = a.rows.indexed.slots.items in
    let rows = living slots in
    let ls = a.loaders.slots.items in
    let u = c.args.number in
    let found = rw c.deref.ensures.value at c.in_ok-at.ensures.found in
    let at = stands ls u c.in_ok-at.at found in
    let last : last_of u rows ≡ Some c.in_ok-last.last =
    last-at rows (living ls) u at.place c.index.result.now.item c.self.invariant.0.loaders
    (at-living ls u c.in_ok-at.at found at)
    (same-kept ls c.in_ok-at.at at c.index.result.now c.index.ensures)
    ∙ c.in_ok-last.was in
    let newest = c.index-2.ensures ∙ last-at-place a.geometry a.rows a.loaders u c.in_ok-at.at
    c.index-2.result.now c.self.invariant.2 found.at in
    rw (c.deref-2.ensures.value, c.deref-3.ensures.value)
    ((newest-goes slots a.rows.before.items u c.in_ok-last.last c.index-2.result.now
    c.self.invariant.2.linked c.self.invariant.0.live.founded newest last).0)

pub returns : goal.returns
returns g c =
    let a = c.self.inside in
    let slots = a.rows.indexed.slots.items in
    let rows = living slots in
    let ls = a.loaders.slots.items in
    let u = c.args.number in
    let found = rw c.deref.ensures.value at c.in_ok-at.ensures.found in
    let at = stands ls u c.in_ok-at.at found in
    let last : last_of u rows ≡ Some c.in_ok-last.last =
    last-at rows (living ls) u at.place c.index.result.now.item c.self.invariant.0.loaders
    (at-living ls u c.in_ok-at.at found at)
    (same-kept ls c.in_ok-at.at at c.index.result.now c.index.ensures)
    ∙ c.in_ok-last.was in
    let newest = c.index-2.ensures ∙ last-at-place a.geometry a.rows a.loaders u c.in_ok-at.at
    c.index-2.result.now c.self.invariant.2 found.at in
    let same = (newest-goes slots a.rows.before.items u c.in_ok-last.last c.index-2.result.now
    c.self.invariant.2.linked c.self.invariant.0.live.founded newest last).1 in
    rw (← c.self.view_is)
    (ap Some (c.from_newest.ensures
    ∙ ap (λ (l : List (BookSlot (Row g.row.P.Denot))).
    kept_on c.in_ok-last.last.chunk (rows_to c.index-2.result.now l)) c.deref-2.ensures.value
    ∙ sym same)
    ∙ sym (ap (option_map (λ (l : LastChunk). kept_on l.chunk rows)) last))
