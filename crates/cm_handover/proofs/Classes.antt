-- Rows with classes, and the same rows with the words of their records.
-- For `commands_follow_the_machine`, `committed_rows_are_the_machines` and others.
use Rattle.std.proofs.Common.{◌≡◌, ℕ, ◌+◌, Bool, true, false, cond, List, [], ◌∷◌, ◌++◌}
use Rattle.std.proofs.Common.{Option, Some, None, refl, sym, ap, ◌∙◌, eqb}
use Rattle.std.specs.Prelude.{◌&&◌, not}
use Rattle.std.specs.Option.{option_map, option_and_then}
use Rattle.std.specs.Str.{bytes_eq}
use Rattle.std.proofs.lemmas.List.{map-append}
use Rattle.cm_class.specs.declared.class_file.ClassFile.{ClassFile}
use Rattle.cm_class.specs.Names.{class_name_of}
use Rattle.cm_pool.specs.declared.chunk.Chunk.{Chunk}
use Rattle.cm_pool.specs.Chunks.{same_chunk}
use Rattle.cm_pool.specs.Geometry.{Sizes}
use Rattle.cm_record.specs.Layout.{lay, IsRecordOf}
use Rattle.cm_record.specs.Names.{class_name_in}
use Rattle.cm_layout.specs.declared.row.Row.{Row}
use Rattle.cm_layout.specs.declared.row.Row.TheVariants.{Loader, Class}
use Rattle.cm_layout.specs.declared.entry.Entry.{Entry}
use Rattle.cm_layout.specs.declared.entry.Entry.TheVariants as entry
use Rattle.cm_layout.specs.Slots.{FitsEntry}
use Rattle.cm_layout.specs.Rows.{name_of, number_of, rows_after, without_loader, bare}
use Rattle.cm_layout.specs.Rows.{without_loaders, moved}
use Rattle.cm_layout.specs.Rows.{row_with, rows_with, entry_with}
use Rattle.cm_layout.specs.Rules.{broken_rule}
use Rattle.cm_layout.specs.Frames.{bare_entry}
use Rattle.cm_layout.proofs.{rule-bare, each-append, each-without, each-without-all, each-moved}
use Rattle.cm_state.specs.State.{class_shows, words_show, class_among}
use Rattle.cm_state.specs.Entries.{MayFollow, IsNewClass, names_of}
use Rattle.cm_commands.specs.Machine.{IsRightClass}
use Rattle.cm_handover.specs.Following.{AreRightClasses, IsRightEntry}

abbrev pub ClassRows : Type 0
ClassRows = List (Row ClassFile)

-- a record's words give its class's name
abbrev pub TellName : Type 0
TellName = (c : ClassFile) (words : List ℕ) → IsRecordOf c words → class_name_in words ≡
    class_name_of c

pub name_told : TellName → (c : ClassFile) → IsRightClass c → class_name_in (lay c)
    ≡ class_name_of c
name_told tell c right =
    tell c (lay c) (record { spelled = right.kept.spelled; laid = refl; short = right.short })

-- ---- without what is kept they are the same

pub bare_words : (rows : ClassRows) → bare (rows_with lay rows) ≡ bare rows
bare_words [] = refl
bare_words (Loader r ∷ rows) = ap (λ l. Loader r ∷ l) (bare_words rows)
bare_words (Class r c ∷ rows) = ap (λ l. Class r (tt {0}) ∷ l) (bare_words rows)

bare_entry_words : (e : Entry ClassFile) → bare_entry (entry_with lay e) ≡ bare_entry e
bare_entry_words (entry.Live (Loader r)) = refl
bare_entry_words (entry.Live (Class r c)) = refl
bare_entry_words (entry.Unload e) = refl
bare_entry_words (entry.Move e) = refl
bare_entry_words (entry.UnloadAll e) = refl

rule_words : (sizes : Sizes) (rows : ClassRows) (n : ℕ) (e : Entry ClassFile)
    → broken_rule sizes (rows_with lay rows) n (entry_with lay e) ≡ broken_rule sizes rows n e
rule_words sizes rows n e =
    sym (rule-bare sizes (rows_with lay rows) n (entry_with lay e))
    ∙ (ap (λ l. broken_rule sizes l n (bare_entry (entry_with lay e))) (bare_words rows)
    ∙ (ap (broken_rule sizes (bare rows) n) (bare_entry_words e) ∙ rule-bare sizes rows n e))

fits_words : (e : Entry ClassFile) → FitsEntry (entry_with lay e) → FitsEntry e
fits_words (entry.Live (Loader r)) f = f
fits_words (entry.Live (Class r c)) f = f
fits_words (entry.Unload e) f = f
fits_words (entry.Move e) f = f
fits_words (entry.UnloadAll e) f = f

pub name_words : (u : ℕ) (rows : ClassRows) → name_of u (rows_with lay rows) ≡ name_of u rows
name_words u [] = refl
name_words u (Loader r ∷ rows) = ap (cond (eqb r.number u) (Some r.name)) (name_words u rows)
name_words u (Class r c ∷ rows) = name_words u rows

pub names_words : (us : List ℕ) (rows : ClassRows)
    → names_of (rows_with lay rows) us ≡ names_of rows us
names_words [] rows = refl
names_words (u ∷ us) rows =
    (λ i. option_and_then (λ x. option_map (λ xs. x ∷ xs) (names_words us rows i))
    (name_words u rows i))

pub number_words : (x : List ℕ) (rows : ClassRows)
    → number_of x (rows_with lay rows) ≡ number_of x rows
number_words x [] = refl
number_words x (Loader r ∷ rows) =
    ap (cond (bytes_eq r.name x) (Some r.number)) (number_words x rows)
number_words x (Class r c ∷ rows) = number_words x rows

-- ---- rows after an entry

without_words : (u : ℕ) (rows : ClassRows)
    → rows_with lay (without_loader u rows) ≡ without_loader u (rows_with lay rows)
without_words u [] = refl
without_words u (Loader r ∷ rows) = by_test (eqb r.number u) (without_words u rows)
  where
    by_test : (t : Bool)
        → rows_with lay (without_loader u rows) ≡ without_loader u (rows_with lay rows)
        → rows_with lay (cond (not t) (Loader r ∷ without_loader u rows) (without_loader u rows))
        ≡ cond (not t) (Loader r ∷ without_loader u (rows_with lay rows))
        (without_loader u (rows_with lay rows))
    by_test true rest = rest
    by_test false rest = ap (λ l. Loader r ∷ l) rest
without_words u (Class r c ∷ rows) = by_test (eqb r.loader u) (without_words u rows)
  where
    by_test : (t : Bool)
        → rows_with lay (without_loader u rows) ≡ without_loader u (rows_with lay rows)
        → rows_with lay (cond (not t) (Class r c ∷ without_loader u rows) (without_loader u rows))
        ≡ cond (not t) (Class r (lay c) ∷ without_loader u (rows_with lay rows))
        (without_loader u (rows_with lay rows))
    by_test true rest = rest
    by_test false rest = ap (λ l. Class r (lay c) ∷ l) rest

without_all_words : (us : List ℕ) (rows : ClassRows)
    → rows_with lay (without_loaders us rows) ≡ without_loaders us (rows_with lay rows)
without_all_words [] rows = refl
without_all_words (u ∷ us) rows =
    without_all_words us (without_loader u rows) ∙ ap (without_loaders us) (without_words u rows)

moved_words : (from to : Chunk) (rows : ClassRows)
    → rows_with lay (moved from to rows) ≡ moved from to (rows_with lay rows)
moved_words from to [] = refl
moved_words from to (Loader r ∷ rows) = ap (λ l. Loader r ∷ l) (moved_words from to rows)
moved_words from to (Class r c ∷ rows) =
    by_test (same_chunk r.place.chunk from) (moved_words from to rows)
  where
    by_test : (t : Bool) → rows_with lay (moved from to rows) ≡ moved from to (rows_with lay rows)
        → rows_with lay (cond t (Class (record r { place = record r.place { chunk = to } }) c)
        (Class r c)
        ∷ moved from to rows)
        ≡ cond t (Class (record r { place = record r.place { chunk = to } }) (lay c)) (Class r (lay
        c))
        ∷ moved from to (rows_with lay rows)
    by_test true rest =
        ap (λ l. Class (record r { place = record r.place { chunk = to } }) (lay c) ∷ l) rest
    by_test false rest = ap (λ l. Class r (lay c) ∷ l) rest

pub after_words : (rows : ClassRows) (e : Entry ClassFile)
    → rows_with lay (rows_after rows e) ≡ rows_after (rows_with lay rows) (entry_with lay e)
after_words rows (entry.Live row) =
    map-append (λ (r : Row ClassFile). row_with lay r) rows (row ∷ [])
after_words rows (entry.Unload e) = without_words e.loader rows
after_words rows (entry.Move e) = moved_words e.from e.to rows
after_words rows (entry.UnloadAll e) = without_all_words e.loaders rows

pub right_after : (rows : ClassRows) (e : Entry ClassFile) → AreRightClasses rows → IsRightEntry e
    → AreRightClasses (rows_after rows e)
right_after rows (entry.Live (Loader l)) r is = each-append IsRightClass rows (Loader l ∷ []) r tt
right_after rows (entry.Live (Class l c)) r is =
    each-append IsRightClass rows (Class l c ∷ []) r (is, tt)
right_after rows (entry.Unload e) r is = each-without IsRightClass e.loader rows r
right_after rows (entry.UnloadAll e) r is = each-without-all IsRightClass e.loaders rows r
right_after rows (entry.Move e) r is = each-moved IsRightClass e.from e.to rows r

-- ---- classes by name

pub among_words : TellName → (u : ℕ) (name : List ℕ) (rows : ClassRows) → AreRightClasses rows
    → class_among words_show u name (rows_with lay rows)
    ≡ option_map lay (class_among class_shows u name rows)
among_words tell u name [] r = refl
among_words tell u name (Loader l ∷ rows) r = among_words tell u name rows r
among_words tell u name (Class l c ∷ rows) r =
    ap (λ x. cond (eqb l.loader u && bytes_eq x name) (Some (lay c))
    (class_among words_show u name (rows_with lay rows))) (name_told tell c r.0)
    ∙ by_test (eqb l.loader u && bytes_eq (class_name_of c) name) (among_words tell u name rows r.1)
  where
    by_test : (t : Bool)
        → class_among words_show u name (rows_with lay rows)
        ≡ option_map lay (class_among class_shows u name rows)
        → cond t (Some (lay c)) (class_among words_show u name (rows_with lay rows))
        ≡ option_map lay (cond t (Some c) (class_among class_shows u name rows))
    by_test true rest = refl
    by_test false rest = rest

pub none_mapped : {A B : Type 0} (f : A → B) (o : Option A) → option_map f o ≡ None → o ≡ None
none_mapped f None h = refl
none_mapped f (Some x) h = absurd (cc)

new_words : TellName → (rows : ClassRows) (e : Entry ClassFile) → AreRightClasses rows
    → IsRightEntry e
    → IsNewClass words_show (rows_with lay rows) (entry_with lay e) → IsNewClass class_shows rows e
new_words tell rows (entry.Live (Loader r)) right is new = tt
new_words tell rows (entry.Live (Class r c)) right is new = (
  none_mapped lay (class_among class_shows r.loader (class_name_of c) rows)
      (sym (among_words tell r.loader (class_name_of c) rows right)
      ∙ (ap (λ x. class_among words_show r.loader x (rows_with lay rows)) (sym (name_told tell c
      is))
      ∙ new.0)),
  new.1,
)
new_words tell rows (entry.Unload e) right is new = tt
new_words tell rows (entry.Move e) right is new = tt
new_words tell rows (entry.UnloadAll e) right is new = tt

-- an entry that may follow by the words of records may follow by classes
pub may_follow : TellName → (sizes : Sizes) (n : ℕ) (rows : ClassRows) (e : Entry ClassFile)
    → AreRightClasses rows → IsRightEntry e
    → MayFollow words_show sizes n (rows_with lay rows) (entry_with lay e)
    → MayFollow class_shows sizes n rows e
may_follow tell sizes n rows e right is may = record {
  fits = fits_words e may.fits;
  keeps = sym (rule_words sizes rows (n + 1) e) ∙ may.keeps;
  new = new_words tell rows e right is may.new;
}
