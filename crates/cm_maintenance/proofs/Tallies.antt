-- Counting rows one after another.
-- For `count`.
use Rattle.std.proofs.Common.{◌≡◌, ◌+◌, ◌≤◌, Bool, true, false, cond, List, [], ◌∷◌, length}
use Rattle.std.proofs.Common.{refl, arith, eqb}
use Rattle.cm_layout.specs.declared.row.Row.{Row}
use Rattle.cm_layout.specs.declared.row.Row.TheVariants.{Loader, Class}
use Rattle.cm_layout.specs.Rows.{numbers_in, classes_in}
use Rattle.cm_maintenance.specs.Report.{first_records}

-- the first row counts by itself
pub record IsApart {P : Type 0} (row : Row P) (rest : List (Row P)) : Type 0 where
  pub loaders : length (numbers_in (row ∷ rest))
      ≡ length (numbers_in (row ∷ [])) + length (numbers_in rest)
  pub classes : length (classes_in (row ∷ rest))
      ≡ length (classes_in (row ∷ [])) + length (classes_in rest)
  pub chunks : first_records (classes_in (row ∷ rest))
      ≡ first_records (classes_in (row ∷ [])) + first_records (classes_in rest)
  pub few : first_records (classes_in (row ∷ [])) ≤ length (classes_in (row ∷ []))
  pub one : length (numbers_in (row ∷ [])) + length (classes_in (row ∷ [])) ≡ 1

at_most_one : (t : Bool) → cond t 1 0 + 0 ≤ 1
at_most_one true = omega arith
at_most_one false = omega arith

pub apart : {P : Type 0} (row : Row P) (rest : List (Row P)) → IsApart row rest
apart (Loader r) rest = record {
  loaders = omega arith;
  classes = omega arith;
  chunks = omega arith;
  few = omega arith;
  one = refl;
}
apart (Class r p) rest = record {
  loaders = omega arith;
  classes = omega arith;
  chunks = omega arith;
  few = at_most_one (eqb r.place.offset 0);
  one = refl;
}

-- each row is a loader's or a class's
pub each_counts : {P : Type 0} (rows : List (Row P))
    → length (numbers_in rows) + length (classes_in rows) ≡ length rows
each_counts [] = refl
each_counts (Loader r ∷ rows) = let rest = each_counts rows in omega (arith, rest)
each_counts (Class r p ∷ rows) = let rest = each_counts rows in omega (arith, rest)
