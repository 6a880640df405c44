use Rattle.std.proofs.Common.{◌≡◌, Option, Some, None, is_some, IfSome, IfNone, List, ℕ, sym, ◌∙◌}
use Rattle.cm_layout.specs.Rules.{is_live}
use Rattle.cm_layout.specs.declared.row.Row.{Row}
use Rattle.cm_rows.specs.declared.live_loader.LiveLoader.{LiveLoader}
use Rattle.cm_index.specs.declared.slot.BookSlot.{BookSlot}
use Rattle.cm_rows.specs.Loaders.{LoaderLivesAt, IsAbsent}
use Rattle.cm_rows.specs.LiveRows.{AreLoadersOf}
use Rattle.cm_rows.proofs.Verdicts.{live-at, not_live}
use Rattle.cm_index.specs.Living.{living}
use Rattle.cm_rows.proofs.KeptPlaces.{stands, at-living}
use Rattle.cm_rows.proofs.live_rows.LiveRows.is_live.Goals as goal

by_find : {P : Type 0} (rows : List (Row P)) (ls : List (BookSlot LiveLoader)) (u : ℕ)
    (o : Option ℕ)
    → AreLoadersOf rows (living ls) → IfSome o (LoaderLivesAt ls u)
    → IfNone o (IsAbsent (living ls) u)
    → is_some o ≡ is_live u rows
by_find rows ls u (Some i) h found absent =
    let at = stands ls u i found in
    sym (live-at rows (living ls) u at.place h (at-living ls u i found at))
by_find rows ls u None h found absent = sym (not_live rows (living ls) u h absent)

pub returns : goal.returns
returns g c =
    let rows = (living c.self.inside.rows.indexed.slots.items) in
    let ls = c.self.inside.loaders.slots.items in
    let found = rw c.deref.ensures.value at c.find.ensures.found in
    let absent = rw c.deref.ensures.value at c.find.ensures.absent in
    let is : c.is_some.result ≡ is_live c.args.number rows = c.is_some.ensures
    ∙ by_find rows ls c.args.number c.find.result c.self.invariant.0.loaders found absent in
    rw (← c.self.view_is) is
