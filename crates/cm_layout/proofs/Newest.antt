-- Rows and entries that fit their slots are of the version that is written now.
-- On `IsGoodHalf`, for crates above.
use Rattle.std.proofs.Common.{ℕ, ◌+◌, List, [], ◌∷◌, ◌++◌}
use Rattle.std.specs.List.{AllByRecursion}
use Rattle.cm_pool.specs.Geometry.{Sizes}
use Rattle.cm_layout.specs.declared.row.Row.TheVariants.{Loader, Class}
use Rattle.cm_layout.specs.declared.entry.Entry.TheVariants as entry
use Rattle.cm_layout.specs.Slots.{FitsRow, FitsEntry, RowOfVersion, EntryOfVersion}
use Rattle.cm_layout.specs.Rows.{rows_after}
use Rattle.cm_layout.specs.Frames.{BareRow, BareEntry, LiveRowsKeep, EntriesKeep, entry_version}

newest-row : (row : BareRow) → FitsRow row → RowOfVersion entry_version row
newest-row (Loader r) fits = fits.name
newest-row (Class r p) fits = tt

newest-entry : (e : BareEntry) → FitsEntry e → EntryOfVersion entry_version e
newest-entry (entry.Live row) fits = newest-row row fits
newest-entry (entry.Unload e) fits = tt
newest-entry (entry.Move e) fits = tt
newest-entry (entry.UnloadAll e) fits = tt

pub newest-rows : (sizes : Sizes) (base : ℕ) (before rows : List BareRow)
    → LiveRowsKeep sizes base before rows → AllByRecursion (RowOfVersion entry_version) rows
newest-rows sizes base before [] keep = tt
newest-rows sizes base before (row ∷ rows) keep =
    (newest-row row keep.0, newest-rows sizes base (before ++ row ∷ []) rows keep.2)

pub newest-entries : (sizes : Sizes) (rows : List BareRow) (n : ℕ) (es : List BareEntry)
    → EntriesKeep sizes rows n es → AllByRecursion (EntryOfVersion entry_version) es
newest-entries sizes rows n [] keep = tt
newest-entries sizes rows n (e ∷ es) keep =
    (newest-entry e keep.0, newest-entries sizes (rows_after rows e) (n + 1) es keep.2)
