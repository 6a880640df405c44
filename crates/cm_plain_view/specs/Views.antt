-- A view as plain data, and what it says of a class.
use Rattle.std.specs.Prelude.{◌≡◌, ℕ, List, map, Bool, true, false, Option, Some, None}
use Rattle.std.specs.Prelude.{slice_index_or}
use Rattle.cm_class.specs.declared.class_file.ClassFile.{ClassFile}
use Rattle.cm_class.specs.Names.{class_name_of}
use Rattle.cm_state.specs.State.{CacheState, class_in}
use Rattle.cm_view_index.specs.declared.row.ViewRow.{ViewRow}
use Rattle.cm_view_index.specs.Rows.{name_of}
use Rattle.cm_view_index.specs.Index.{IsRowAt}
use Rattle.cm_view.specs.declared.view.View.{View}
use Rattle.cm_view.specs.Taking.{HasClass}
use Rattle.cm_view.specs.Views.{IsViewOf}
use Rattle.cm_plain_view.specs.declared.loader.ViewLoader.{ViewLoader}
use Rattle.cm_plain_view.specs.Loaders.{HasLoader, loader_row}

-- these are the rows and the loaders of a view of these contents
pub record IsPlainView (contents : List ℕ) (rows : List ViewRow) (loaders : List ViewLoader)
    : Type 0 where
  pub view : View
  pub of : IsViewOf contents view
  pub rows_are : rows ≡ view.rows.items
  pub loaders_are : map loader_row loaders ≡ view.loaders.items

-- the row at this place is of the loader of this name, and shows this name
pub record IsPlaced (bytes : List ℕ) (rows : List ViewRow) (loaders : List ViewLoader)
    (loader name : List ℕ) (at : ℕ) : Type 0 where
  pub number : ℕ
  pub owner : HasLoader loaders loader number
  pub placed : IsRowAt bytes rows number name at

-- the record of a row is that of a class that keeps the rules, and has the name that the row shows;
-- or there is no such class
abbrev pub IsJudged : List ℕ → ViewRow → Bool → Type 0
IsJudged bytes row true =
    (c : ClassFile) × HasClass bytes row c × (class_name_of c ≡ name_of bytes row)
IsJudged bytes row false = (c : ClassFile) → HasClass bytes row c → ⊥

-- what a place says, if the contents stand for this cache: the cache has the class, whose record
-- is that of the row at this place; or it doesn't have it
abbrev pub IsPlaceIn : CacheState → List ℕ → List ViewRow → List ℕ → List ℕ → Option ℕ → Type 0
IsPlaceIn m contents rows loader name (Some at) =
    (c : ClassFile) × (class_in m loader name ≡ Some c)
    × ((d : ViewRow) → HasClass contents (slice_index_or rows at d) c)
IsPlaceIn m contents rows loader name None = class_in m loader name ≡ None
