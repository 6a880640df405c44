-- How many slots rows take: one or two each, whatever is kept of their classes.
-- On `slots_of_rows`, for crates above.
use Rattle.std.proofs.Common.{◌≡◌, ℕ, ◌+◌, ◌≤◌, Bool, true, false, cond, List, [], ◌∷◌, ◌++◌, refl}
use Rattle.std.proofs.Common.{length, ap, arith}
use Rattle.std.specs.Prelude.{not}
use Rattle.cm_pool.specs.declared.chunk.Chunk.{Chunk}
use Rattle.cm_pool.specs.Chunks.{same_chunk}
use Rattle.cm_layout.specs.declared.row.Row.{Row}
use Rattle.cm_layout.specs.declared.row.Row.TheVariants.{Loader, Class}
use Rattle.cm_layout.specs.Names.{is_long, slots_of_name}
use Rattle.cm_layout.specs.Rows.{slots_of_row, slots_of_rows, is_of, without_loader, moved, bare}
use Rattle.cm_layout.specs.Rows.{rows_with}

pub slots-name : (name : List ℕ) → (1 ≤ slots_of_name name) × (slots_of_name name ≤ 2)
slots-name name = by_test (is_long name)
  where
    by_test : (t : Bool) → (1 ≤ cond t 2 1) × (cond t 2 1 ≤ 2)
    by_test true = (omega arith, omega arith)
    by_test false = (omega arith, omega arith)

pub slots-row : {P : Type 0} (row : Row P) → (1 ≤ slots_of_row row) × (slots_of_row row ≤ 2)
slots-row (Loader r) = slots-name r.name
slots-row (Class r p) = (omega arith, omega arith)

-- there are no fewer slots than rows
pub rows-within : {P : Type 0} (rows : List (Row P)) → length rows ≤ slots_of_rows rows
rows-within [] = omega arith
rows-within (row ∷ rows) = omega (arith, rows-within rows, (slots-row row).0)

-- there are at most twice as many slots as rows
pub slots-within : {P : Type 0} (rows : List (Row P))
    → slots_of_rows rows ≤ length rows + length rows
slots-within [] = omega arith
slots-within (row ∷ rows) = omega (arith, slots-within rows, (slots-row row).1)

-- ---- more rows

pub slots-append : {P : Type 0} (rows more : List (Row P))
    → slots_of_rows (rows ++ more) ≡ slots_of_rows rows + slots_of_rows more
slots-append [] more = omega arith
slots-append (r ∷ rows) more = omega (arith, slots-append rows more)

pub slots-push : {P : Type 0} (rows : List (Row P)) (row : Row P)
    → slots_of_rows (rows ++ row ∷ []) ≡ slots_of_rows rows + slots_of_row row
slots-push rows row = omega (arith, slots-append rows (row ∷ []))

-- ---- fewer, or other ones

pub slots-without : {P : Type 0} (u : ℕ) (rows : List (Row P))
    → slots_of_rows (without_loader u rows) ≤ slots_of_rows rows
slots-without u [] = omega arith
slots-without {P} u (row ∷ rows) = by_test (is_of u row) (slots-without u rows)
  where
    by_test : (t : Bool) → slots_of_rows (without_loader u rows) ≤ slots_of_rows rows
        → slots_of_rows (cond (not t) (row ∷ without_loader u rows) (without_loader u rows))
        ≤ slots_of_rows (row ∷ rows)
    by_test true rest = omega (arith, rest)
    by_test false rest = omega (arith, rest)

pub slots-moved : {P : Type 0} (from to : Chunk) (rows : List (Row P))
    → slots_of_rows (moved from to rows) ≡ slots_of_rows rows
slots-moved from to [] = refl
slots-moved from to (Loader r ∷ rows) =
    ap (λ (n : ℕ). slots_of_name r.name + n) (slots-moved from to rows)
slots-moved {P} from to (Class r p ∷ rows) =
    by_test (same_chunk r.place.chunk from) (slots-moved from to rows)
  where
    by_test : (t : Bool) → slots_of_rows (moved from to rows) ≡ slots_of_rows rows
        → slots_of_rows (cond t (Class (record r { place = record r.place { chunk = to } }) p)
        (Class r p)
        ∷ moved from to rows) ≡ 1 + slots_of_rows rows
    by_test true rest = ap (λ (n : ℕ). 1 + n) rest
    by_test false rest = ap (λ (n : ℕ). 1 + n) rest

-- ---- whatever is kept of a class

pub slots_of-with : {A B : Type 0} (f : A → B) (rows : List (Row A))
    → slots_of_rows (rows_with f rows) ≡ slots_of_rows rows
slots_of-with f [] = refl
slots_of-with f (Loader r ∷ rows) =
    ap (λ (n : ℕ). slots_of_name r.name + n) (slots_of-with f rows)
slots_of-with f (Class r c ∷ rows) = ap (λ (n : ℕ). 1 + n) (slots_of-with f rows)

pub slots-bare : {A : Type 0} (rows : List (Row A)) → slots_of_rows (bare rows) ≡ slots_of_rows rows
slots-bare [] = refl
slots-bare (Loader r ∷ rows) = ap (λ (n : ℕ). slots_of_name r.name + n) (slots-bare rows)
slots-bare (Class r c ∷ rows) = ap (λ (n : ℕ). 1 + n) (slots-bare rows)
