-- Loaders in the order of their names.
use Rattle.std.specs.Prelude.{◌≡◌, ℕ, ◌<◌, List, length, slice_index_or}
use Rattle.std.specs.Ordering.{is_lt, nat_cmp}
use Rattle.std.specs.Cmp.Lexicographic.{slice_cmp}
use Rattle.std.specs.List.{Contains}
use Rattle.std.specs.List.Sorted.{IsSortedBy}
use Rattle.cm_layout.specs.declared.loader_row.LoaderRow.{LoaderRow}

abbrev pub AreInOrder : List LoaderRow → Type 0
AreInOrder loaders =
    IsSortedBy (λ (a : LoaderRow) (b : LoaderRow). is_lt (slice_cmp nat_cmp a.name b.name)) loaders

-- one of the loaders has this name and this number
pub record HasLoader (loaders : List LoaderRow) (name : List ℕ) (number : ℕ) : Type 0 where
  pub loader : LoaderRow
  pub among : Contains loaders loader
  pub named : loader.name ≡ name
  pub number_is : loader.number ≡ number

-- none of them has this name
abbrev pub HasNoLoader : List LoaderRow → List ℕ → Type 0
HasNoLoader loaders name =
    (k : ℕ) (d : LoaderRow) → k < length loaders → (slice_index_or loaders k d).name ≡ name → ⊥
