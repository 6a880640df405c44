-- Rows with nothing kept of a class have the same loaders, numbers, chunks and rules.
-- On `bare`, `bare_entry`, `rows_with`, for crates above.
use Rattle.std.proofs.Common.{◌≡◌, ℕ, Bool, true, false, cond, List, [], ◌∷◌, ◌++◌, refl}
use Rattle.std.proofs.Common.{Some, sym, ap, ◌∙◌, eqb}
use Rattle.std.specs.Prelude.{not}
use Rattle.std.specs.Str.{bytes_eq}
use Rattle.cm_pool.specs.declared.chunk.Chunk.{Chunk}
use Rattle.cm_pool.specs.Chunks.{same_chunk}
use Rattle.cm_pool.specs.Geometry.{Sizes}
use Rattle.cm_layout.specs.declared.row.Row.{Row}
use Rattle.cm_layout.specs.declared.row.Row.TheVariants.{Loader, Class}
use Rattle.cm_layout.specs.declared.entry.Entry.{Entry}
use Rattle.cm_layout.specs.declared.entry.Entry.TheVariants as entry
use Rattle.cm_layout.specs.Rows.{name_of, number_of, numbers_in, classes_in}
use Rattle.cm_layout.specs.Rows.{without_loader, without_loaders, moved, rows_after, rows_with}
use Rattle.cm_layout.specs.Rows.{bare}
use Rattle.cm_layout.specs.Rules.{broken_rule}
use Rattle.cm_layout.specs.Loaders.{LoadersDiffer}
use Rattle.cm_layout.specs.Frames.{bare_row, bare_entry}
use Rattle.cm_layout.proofs.Unloaded.{all-live-with}
use Rattle.cm_layout.proofs.SlotCounts.{slots-bare}
use Rattle.std.proofs.lemmas.List.{map-append}

pub bare-with : {A B : Type 0} (f : A → B) (rows : List (Row A)) → bare (rows_with f rows)
    ≡ bare rows
bare-with f [] = refl
bare-with f (Loader r ∷ rows) = ap (λ l. Loader r ∷ l) (bare-with f rows)
bare-with f (Class r c ∷ rows) = ap (λ l. Class r (tt {0}) ∷ l) (bare-with f rows)

pub number-bare : {A : Type 0} (x : List ℕ) (rows : List (Row A))
    → number_of x (bare rows) ≡ number_of x rows
number-bare x [] = refl
number-bare x (Loader r ∷ rows) =
    ap (cond (bytes_eq r.name x) (Some r.number)) (number-bare x rows)
number-bare x (Class r c ∷ rows) = number-bare x rows

pub name-bare : {A : Type 0} (u : ℕ) (rows : List (Row A)) → name_of u (bare rows) ≡ name_of u rows
name-bare u [] = refl
name-bare u (Loader r ∷ rows) = ap (cond (eqb r.number u) (Some r.name)) (name-bare u rows)
name-bare u (Class r c ∷ rows) = name-bare u rows

pub numbers-bare : {A : Type 0} (rows : List (Row A)) → numbers_in (bare rows) ≡ numbers_in rows
numbers-bare [] = refl
numbers-bare (Loader r ∷ rows) = ap (λ l. r.number ∷ l) (numbers-bare rows)
numbers-bare (Class r c ∷ rows) = numbers-bare rows

pub classes-bare : {A : Type 0} (rows : List (Row A)) → classes_in (bare rows) ≡ classes_in rows
classes-bare [] = refl
classes-bare (Loader r ∷ rows) = classes-bare rows
classes-bare (Class r c ∷ rows) = ap (λ l. r ∷ l) (classes-bare rows)

pub differ-bare : {A : Type 0} (rows : List (Row A)) → LoadersDiffer (bare rows)
    → LoadersDiffer rows
differ-bare [] d = tt
differ-bare (Loader r ∷ rows) d = (
  sym (name-bare r.number rows) ∙ d.0,
  sym (number-bare r.name rows) ∙ d.1,
  differ-bare rows d.2,
)
differ-bare (Class r c ∷ rows) d = differ-bare rows d

pub more-bare : {A : Type 0} (rows : List (Row A)) (row : Row A)
    → bare (rows ++ row ∷ []) ≡ bare rows ++ bare_row row ∷ []
more-bare {A} rows row = map-append (λ (r : Row A). bare_row r) rows (row ∷ [])

without-bare : {A : Type 0} (u : ℕ) (rows : List (Row A))
    → bare (without_loader u rows) ≡ without_loader u (bare rows)
without-bare u [] = refl
without-bare {A} u (Loader r ∷ rows) = by_test (eqb r.number u) (without-bare u rows)
  where
    by_test : (t : Bool) → bare (without_loader u rows) ≡ without_loader u (bare rows)
        → bare (cond (not t) (Loader r ∷ without_loader u rows) (without_loader u rows))
        ≡ cond (not t) (Loader r ∷ without_loader u (bare rows)) (without_loader u (bare rows))
    by_test true rest = rest
    by_test false rest = ap (λ l. Loader r ∷ l) rest
without-bare {A} u (Class r c ∷ rows) = by_test (eqb r.loader u) (without-bare u rows)
  where
    by_test : (t : Bool) → bare (without_loader u rows) ≡ without_loader u (bare rows)
        → bare (cond (not t) (Class r c ∷ without_loader u rows) (without_loader u rows))
        ≡ cond (not t) (Class r (tt {0}) ∷ without_loader u (bare rows))
        (without_loader u (bare rows))
    by_test true rest = rest
    by_test false rest = ap (λ l. Class r (tt {0}) ∷ l) rest

without_all-bare : {A : Type 0} (us : List ℕ) (rows : List (Row A))
    → bare (without_loaders us rows) ≡ without_loaders us (bare rows)
without_all-bare [] rows = refl
without_all-bare (u ∷ us) rows =
    without_all-bare us (without_loader u rows) ∙ ap (without_loaders us) (without-bare u rows)

moved-bare : {A : Type 0} (from to : Chunk) (rows : List (Row A))
    → bare (moved from to rows) ≡ moved from to (bare rows)
moved-bare from to [] = refl
moved-bare from to (Loader r ∷ rows) = ap (λ l. Loader r ∷ l) (moved-bare from to rows)
moved-bare {A} from to (Class r c ∷ rows) =
    by_test (same_chunk r.place.chunk from) (moved-bare from to rows)
  where
    by_test : (t : Bool) → bare (moved from to rows) ≡ moved from to (bare rows)
        → bare (cond t (Class (record r { place = record r.place { chunk = to } }) c) (Class r c)
        ∷ moved from to rows)
        ≡ cond t (Class (record r { place = record r.place { chunk = to } }) (tt {0}))
        (Class r (tt {0}))
        ∷ moved from to (bare rows)
    by_test true rest =
        ap (λ l. Class (record r { place = record r.place { chunk = to } }) (tt {0}) ∷ l) rest
    by_test false rest = ap (λ l. Class r (tt {0}) ∷ l) rest

pub after-bare : {A : Type 0} (rows : List (Row A)) (e : Entry A)
    → bare (rows_after rows e) ≡ rows_after (bare rows) (bare_entry e)
after-bare rows (entry.Live row) = more-bare rows row
after-bare rows (entry.Unload e) = without-bare e.loader rows
after-bare rows (entry.Move e) = moved-bare e.from e.to rows
after-bare rows (entry.UnloadAll e) = without_all-bare e.loaders rows

pub rule-bare : {A : Type 0} (sizes : Sizes) (rows : List (Row A)) (n : ℕ) (e : Entry A)
    → broken_rule sizes (bare rows) n (bare_entry e) ≡ broken_rule sizes rows n e
rule-bare sizes rows n (entry.Live (Loader r)) =
    rw (number-bare r.name rows) (rw (slots-bare rows) refl)
rule-bare sizes rows n (entry.Live (Class r c)) =
    rw (name-bare r.loader rows) (rw (slots-bare rows) (rw (classes-bare rows) refl))
rule-bare sizes rows n (entry.Unload e) = rw (name-bare e.loader rows) refl
rule-bare sizes rows n (entry.Move e) = rw (classes-bare rows) refl
rule-bare sizes rows n (entry.UnloadAll e) =
    rw (all-live-with e.loaders rows (bare rows) (λ u. name-bare u rows)) refl
