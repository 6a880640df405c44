-- The loaders of a view as plain data.
use Rattle.std.specs.Prelude.{◌≡◌, ℕ, ◌<◌, List, take, length, slice_index_or}
use Rattle.std.specs.Ordering.{is_lt, nat_cmp}
use Rattle.std.specs.Cmp.Lexicographic.{slice_cmp}
use Rattle.std.specs.List.{Contains}
use Rattle.std.specs.List.Sorted.{IsSortedBy}
use Rattle.cm_layout.specs.declared.loader_row.LoaderRow.{LoaderRow}
use Rattle.cm_plain_view.specs.declared.loader.ViewLoader.{ViewLoader}

abbrev pub loader_name : ViewLoader → List ℕ
loader_name loader = take loader.len loader.name

-- the row that a loader was made from
abbrev pub loader_row : ViewLoader → LoaderRow
loader_row loader = record { number = loader.number; name = loader_name loader }

-- in the order of their names
abbrev pub AreSorted : List ViewLoader → Type 0
AreSorted loaders =
    IsSortedBy (λ (a : ViewLoader) (b : ViewLoader).
    is_lt (slice_cmp nat_cmp (loader_name a) (loader_name b))) loaders

-- one of the loaders has this name and this number
pub record HasLoader (loaders : List ViewLoader) (name : List ℕ) (number : ℕ) : Type 0 where
  pub loader : ViewLoader
  pub among : Contains loaders loader
  pub named : loader_name loader ≡ name
  pub number_is : loader.number ≡ number

-- none of them has this name
abbrev pub HasNoLoader : List ViewLoader → List ℕ → Type 0
HasNoLoader loaders name =
    (k : ℕ) (d : ViewLoader) → k < length loaders → loader_name (slice_index_or loaders k d) ≡ name
    → ⊥
