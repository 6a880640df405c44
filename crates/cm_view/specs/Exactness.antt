-- A view of contents that stand for a cache: what is found among its rows is what the cache has.
use Rattle.std.specs.Prelude.{◌≡◌, ℕ, List, Some, Ok}
use Rattle.std.specs.List.{All, Contains}
use Rattle.std.specs.List.Sorted.{IsPermutation}
use Rattle.cm_class.specs.declared.class_file.ClassFile.{ClassFile}
use Rattle.cm_class.specs.Names.{class_name_of}
use Rattle.cm_pool.specs.Geometry.{Sizes}
use Rattle.cm_layout.specs.Rows.{number_of}
use Rattle.cm_state.specs.State.{CacheState, class_in}
use Rattle.cm_state.specs.Stands.{Arenas, Stands}
use Rattle.cm_verdict.specs.Found.{Found, found_in}
use Rattle.cm_view_index.specs.declared.row.ViewRow.{ViewRow}
use Rattle.cm_view.specs.Taking.{IsThere, HasClass}
use Rattle.cm_view.specs.Listing.{marked_rows}

-- this was found in the contents, and the rows are those of its classes, in any order
pub record AreRowsOf (contents : List ℕ) (found : Found) (rows : List ViewRow) : Type 0 where
  pub found_is : found_in contents ≡ Ok found
  pub there : All (IsThere contents) rows
  pub same : IsPermutation (marked_rows contents found.sizes found.rows) rows

-- one of the rows is of this loader and has this class
pub record IsClassAmong (contents : List ℕ) (rows : List ViewRow) (u : ℕ) (c : ClassFile)
    : Type 0 where
  pub row : ViewRow
  pub among : Contains rows row
  pub owner : row.loader ≡ u
  pub has : HasClass contents row c

-- each row has a class; the rows of the loader of this number have the classes that the cache has
-- in the loader of this name, and no others
pub record IsExact (contents : List ℕ) (m : CacheState) (loader : List ℕ) (u : ℕ)
    (rows : List ViewRow) : Type 0 where
  pub each : All (λ (row : ViewRow). (c : ClassFile) × HasClass contents row c) rows
  pub all : (name : List ℕ) (c : ClassFile) → class_in m loader name ≡ Some c
      → IsClassAmong contents rows u c × (class_name_of c ≡ name)
  pub only : (c : ClassFile) → IsClassAmong contents rows u c
      → class_in m loader (class_name_of c) ≡ Some c

abbrev pub ViewIsExact : Type 0
ViewIsExact =
    (sizes : Sizes) (contents : List ℕ) (m : CacheState) (arenas : Arenas) (n : ℕ)
    (found : Found) (rows : List ViewRow) (loader : List ℕ) (u : ℕ)
    → Stands sizes contents m arenas n → AreRowsOf contents found rows
    → number_of loader found.rows ≡ Some u → IsExact contents m loader u rows
