-- A view that is written into the caller's memory.
use Rattle.std.specs.Prelude.{◌≡◌, ℕ, ◌<◌, ◌⊎◌, List, length, take, map, Bool, true, false}
use Rattle.cm_view_index.specs.declared.row.ViewRow.{ViewRow}
use Rattle.cm_view.specs.declared.fault.ViewFault.TheVariants as view_fault
use Rattle.cm_view.specs.declared.view.View.{View}
use Rattle.cm_view.specs.Views.{IsViewOf, IsViewFault}
use Rattle.cm_plain_view.specs.declared.loader.ViewLoader.{ViewLoader}
use Rattle.cm_plain_view.specs.declared.opening.ViewCounts.{ViewCounts}
use Rattle.cm_plain_view.specs.declared.opening.NotViewed.{NotViewed}
use Rattle.cm_plain_view.specs.declared.opening.NotViewed.TheVariants.{Fault, NoRoom}
use Rattle.cm_plain_view.specs.Loaders.{loader_row}
use Rattle.cm_plain_view.specs.Views.{IsPlainView}

-- how much a view has
abbrev pub counts_of : View → ViewCounts
counts_of view = record {
  rows = length view.rows.items;
  loaders = length view.loaders.items;
  number = view.number;
}

-- there is no room for so much
abbrev pub IsTooMuch : ViewCounts → ℕ → ℕ → Type 0
IsTooMuch counts rows loaders = (rows < counts.rows) ⊎ (loaders < counts.loaders)

-- a view is written from the front on, or there is no room
abbrev pub Writes : View → List ViewRow → List ViewRow → List ViewLoader → List ViewLoader
    → ViewCounts → Bool → Type 0
Writes view rows new_rows loaders new_loaders counts true =
    (counts ≡ counts_of view) × (take counts.rows new_rows ≡ view.rows.items)
    × (map loader_row (take counts.loaders new_loaders) ≡ view.loaders.items)
Writes view rows new_rows loaders new_loaders counts false =
    (counts ≡ counts_of view) × IsTooMuch counts (length rows) (length loaders)

-- as many rows and loaders as are counted are those of a view, with its number
pub record Opens (contents : List ℕ) (rows : List ViewRow) (loaders : List ViewLoader)
    (counts : ViewCounts) : Type 0 where
  pub plain : IsPlainView contents (take counts.rows rows) (take counts.loaders loaders)
  pub counted : counts ≡ counts_of plain.view

-- a view has more than there is room for
pub record HasMore (contents : List ℕ) (rows loaders : ℕ) (counts : ViewCounts) : Type 0 where
  pub view : View
  pub of : IsViewOf contents view
  pub counted : counts ≡ counts_of view
  pub more : IsTooMuch counts rows loaders

-- why there is none in memory with room for this many rows and loaders
abbrev pub IsNotViewed : List ℕ → ℕ → ℕ → ViewCounts → NotViewed → Type 0
IsNotViewed contents rows loaders counts (Fault e) = IsViewFault contents e
IsNotViewed contents rows loaders counts NoRoom = HasMore contents rows loaders counts

-- memory ran out, the caller's or the system's
abbrev pub WantsMemory : NotViewed → Type 0
WantsMemory (Fault e) = e ≡ view_fault.NoMemory
WantsMemory NoRoom = Unit {0}
