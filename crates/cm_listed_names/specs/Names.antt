-- The names of live loaders and classes.
use Rattle.std.specs.Prelude.{ℕ, List, [], ◌∷◌, ◌==◌, if◌then◌else◌, map}
use Rattle.std.specs.Global.{Vec}
use Rattle.std.specs.Ordering.{is_lt, nat_cmp}
use Rattle.std.specs.Cmp.Lexicographic.{slice_cmp}
use Rattle.std.specs.List.Sorted.{IsPermutation, IsSortedBy}
use Rattle.cm_record.specs.Names.{class_name_in}
use Rattle.cm_layout.specs.declared.row.Row.{Row}
use Rattle.cm_layout.specs.declared.row.Row.TheVariants.{Loader, Class}

-- the names of the loaders, in the order of the rows
abbrev pub loader_names_in : List (Row (List ℕ)) → List (List ℕ)
loader_names_in [] = []
loader_names_in (Loader r ∷ rows) = r.name ∷ loader_names_in rows
loader_names_in (Class r words ∷ rows) = loader_names_in rows

-- the names of the classes of the loader of this number, in the order of the rows
abbrev pub class_names_in : ℕ → List (Row (List ℕ)) → List (List ℕ)
class_names_in loader [] = []
class_names_in loader (Loader r ∷ rows) = class_names_in loader rows
class_names_in loader (Class r words ∷ rows) =
    if r.loader == loader then class_name_in words ∷ class_names_in loader rows
    else class_names_in loader rows

-- names in memory, as their bytes
abbrev pub texts : List (Vec ℕ) → List (List ℕ)
texts names = map (λ (n : Vec ℕ). n.items) names

abbrev pub AreInOrder : List (Vec ℕ) → Type 0
AreInOrder names =
    IsSortedBy (λ (a : Vec ℕ) (b : Vec ℕ). is_lt (slice_cmp nat_cmp a.items b.items)) names

-- these are all the names, in byte order
pub record AreNames (all : List (List ℕ)) (names : List (Vec ℕ)) : Type 0 where
  pub same : IsPermutation all (texts names)
  pub in_order : AreInOrder names
