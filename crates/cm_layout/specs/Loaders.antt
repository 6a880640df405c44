-- What the rules on rows say about the loaders among them.
use Rattle.std.specs.Prelude.{◌≡◌, ◌≤◌, ℕ, List, [], ◌∷◌, Some, None, true}
use Rattle.cm_pool.specs.Lists.{Among}
use Rattle.cm_layout.specs.declared.class_row.ClassRow.{ClassRow}
use Rattle.cm_layout.specs.declared.row.Row.{Row}
use Rattle.cm_layout.specs.declared.row.Row.TheVariants.{Loader, Class}
use Rattle.cm_layout.specs.Names.{is_loader_name}
use Rattle.cm_layout.specs.Rows.{name_of, number_of, numbers_in, classes_in}
use Rattle.cm_layout.specs.Rules.{is_live}

-- no two loaders have the same number or the same name
abbrev pub LoadersDiffer : {P : Type 0} → List (Row P) → Type 0
LoadersDiffer [] = Unit {0}
LoadersDiffer (Loader r ∷ rows) =
    (name_of r.number rows ≡ None) × (number_of r.name rows ≡ None) × LoadersDiffer rows
LoadersDiffer (Class r p ∷ rows) = LoadersDiffer rows

-- the loaders differ, have numbers of past commands and valid names, and each class belongs to one
-- of them
pub record HasOwnLoaders {P : Type 0} (n : ℕ) (rows : List (Row P)) : Type 0 where
  pub differ : LoadersDiffer rows
  pub past : (u : ℕ) → Among u (numbers_in rows) → u ≤ n
  pub named : (u : ℕ) (x : List ℕ) → name_of u rows ≡ Some x → is_loader_name x ≡ true
  pub owned : (r : ClassRow) → Among r (classes_in rows) → is_live r.loader rows ≡ true
