-- Rows that keep something else of each class.
-- For `Committer::advance`, `Committer::new`, `add_rows`, `may_join`, `renewed` and others.
use Rattle.std.proofs.Common.{◌≡◌, ℕ, Bool, true, false, cond, List, [], ◌∷◌, ◌++◌, refl}
use Rattle.std.proofs.Common.{ap, ◌∙◌}
use Rattle.std.specs.List.{flat_map}
use Rattle.std.specs.Prelude.{◌==◌, not}
use Rattle.std.proofs.lemmas.List.{map-append}
use Rattle.cm_pool.specs.declared.chunk.Chunk.{Chunk}
use Rattle.cm_pool.specs.Chunks.{same_chunk}
use Rattle.cm_layout.specs.declared.row.Row.{Row}
use Rattle.cm_layout.specs.declared.row.Row.TheVariants.{Loader, Class}
use Rattle.cm_layout.specs.declared.entry.Entry.{Entry}
use Rattle.cm_layout.specs.declared.entry.Entry.TheVariants as entry
use Rattle.cm_layout.specs.Rows.{bare, rows_with, row_with, rows_after, entry_with, moved}
use Rattle.cm_layout.specs.Rows.{without_loader, without_loaders, slots_of_rows}
use Rattle.cm_layout.specs.Slots.{row_slots, loader_slots, class_slot}
use Rattle.cm_layout.specs.Frames.{BareRow}
use Rattle.cm_layout.proofs.{slots-bare, slots_of-with}

pub bare-with : {P Q : Type 0} (f : P → Q) (rows : List (Row P))
    → bare (rows_with f rows) ≡ bare rows
bare-with f [] = refl
bare-with f (Loader r ∷ rows) =
    ap (λ (l : List BareRow). Loader r ∷ l) (bare-with f rows)
bare-with f (Class r p ∷ rows) =
    ap (λ (l : List BareRow). Class r (tt {0}) ∷ l) (bare-with f rows)

-- ---- after an entry

without-with : {P Q : Type 0} (f : P → Q) (u : ℕ) (rows : List (Row P))
    → rows_with f (without_loader u rows) ≡ without_loader u (rows_with f rows)
without-with f u [] = refl
without-with {P} {Q} f u (Loader r ∷ rows) =
    by_test (not (r.number == u)) (without-with f u rows)
  where
    by_test : (t : Bool) → rows_with f (without_loader u rows) ≡ without_loader u (rows_with f rows)
        → rows_with f (cond t (Loader r ∷ without_loader u rows) (without_loader u rows))
        ≡ cond t (Loader r ∷ without_loader u (rows_with f rows))
        (without_loader u (rows_with f rows))
    by_test true rest = ap (λ (l : List (Row Q)). Loader r ∷ l) rest
    by_test false rest = rest
without-with {P} {Q} f u (Class r p ∷ rows) =
    by_test (not (r.loader == u)) (without-with f u rows)
  where
    by_test : (t : Bool) → rows_with f (without_loader u rows) ≡ without_loader u (rows_with f rows)
        → rows_with f (cond t (Class r p ∷ without_loader u rows) (without_loader u rows))
        ≡ cond t (Class r (f p) ∷ without_loader u (rows_with f rows))
        (without_loader u (rows_with f rows))
    by_test true rest = ap (λ (l : List (Row Q)). Class r (f p) ∷ l) rest
    by_test false rest = rest

without-all-with : {P Q : Type 0} (f : P → Q) (us : List ℕ) (rows : List (Row P))
    → rows_with f (without_loaders us rows) ≡ without_loaders us (rows_with f rows)
without-all-with f [] rows = refl
without-all-with f (u ∷ us) rows =
    without-all-with f us (without_loader u rows) ∙ ap (without_loaders us) (without-with f u rows)

moved-with : {P Q : Type 0} (f : P → Q) (from to : Chunk) (rows : List (Row P))
    → rows_with f (moved from to rows) ≡ moved from to (rows_with f rows)
moved-with f from to [] = refl
moved-with {P} {Q} f from to (Loader r ∷ rows) =
    ap (λ (l : List (Row Q)). Loader r ∷ l) (moved-with f from to rows)
moved-with {P} {Q} f from to (Class r p ∷ rows) =
    by_test (same_chunk r.place.chunk from) (moved-with f from to rows)
  where
    by_test : (t : Bool) → rows_with f (moved from to rows) ≡ moved from to (rows_with f rows)
        → row_with f (cond t (Class (record r { place = record r.place { chunk = to } }) p)
        (Class r p)) ∷ rows_with f (moved from to rows)
        ≡ cond t (Class (record r { place = record r.place { chunk = to } }) (f p)) (Class r (f p))
        ∷ moved from to (rows_with f rows)
    by_test true rest =
        ap (λ (l : List (Row Q)). Class (record r { place = record r.place { chunk = to } })
        (f p) ∷ l) rest
    by_test false rest = ap (λ (l : List (Row Q)). Class r (f p) ∷ l) rest

pub after-with : {P Q : Type 0} (f : P → Q) (rows : List (Row P)) (e : Entry P)
    → rows_with f (rows_after rows e) ≡ rows_after (rows_with f rows) (entry_with f e)
after-with f rows (entry.Live row) = map-append (row_with f) rows (row ∷ [])
after-with f rows (entry.Unload e) = without-with f e.loader rows
after-with f rows (entry.UnloadAll e) = without-all-with f e.loaders rows
after-with f rows (entry.Move e) = moved-with f e.from e.to rows

-- ---- in a half

-- what is kept of a class has no part in its slot
pub slots-with : {P Q : Type 0} (f : P → Q) (rows : List (Row P))
    → flat_map row_slots (bare (rows_with f rows)) ≡ flat_map row_slots rows
slots-with f [] = refl
slots-with f (Loader r ∷ rows) =
    ap (λ (l : List ℕ). loader_slots r ++ l) (slots-with f rows)
slots-with f (Class r p ∷ rows) =
    ap (λ (l : List ℕ). class_slot r ++ l) (slots-with f rows)

-- what is kept of a class takes no slot
pub counted-with : {P Q : Type 0} (f : P → Q) (rows : List (Row P))
    → slots_of_rows (bare (rows_with f rows)) ≡ slots_of_rows rows
counted-with f rows = slots-bare (rows_with f rows) ∙ slots_of-with f rows
