-- What a file stands for is what the report of its rows counts.
-- For `check`.
use Rattle.std.proofs.Common.{◌≡◌, ℕ, List, [], ◌∷◌, length, refl, sym, ap, subst, ◌∙◌, arith}
use Rattle.std.proofs.Common.{Ok, is_some, true}
use Rattle.cm_class.specs.declared.class_file.ClassFile.{ClassFile}
use Rattle.cm_record.specs.Layout.{lay}
use Rattle.cm_layout.specs.declared.class_row.ClassRow.{ClassRow}
use Rattle.cm_layout.specs.declared.row.Row.{Row}
use Rattle.cm_layout.specs.declared.row.Row.TheVariants.{Loader, Class}
use Rattle.cm_layout.specs.Rows.{numbers_in, classes_in, rows_with, bare}
use Rattle.cm_layout.specs.Loaders.{HasOwnLoaders}
use Rattle.cm_layout.specs.Rules.{is_live}
use Rattle.cm_layout.specs.Frames.{AreApart, LiveRowsKeep}
use Rattle.cm_layout.specs.Laws.{LoadersAreOwn}
use Rattle.cm_layout.proofs.{name-bare, classes-bare, differ-bare}
use Rattle.cm_pool.specs.Lists.{Among}
use Rattle.cm_rows.specs.Rows.{LiveRows}
use Rattle.cm_state.specs.State.{class_shows}
use Rattle.cm_state.specs.Entries.{AreCacheRows}
use Rattle.cm_state.specs.Laws.{SizesAgree}
use Rattle.cm_verdict.specs.Verdict.{Standing, verdict}
use Rattle.cm_verdict.specs.Laws.{FoundIsLive, FoundIsFramed, VerdictStands, Proves, IsFramed}
use Rattle.cm_verdict.proofs.{bare_words}
use Rattle.cm_recover.specs.declared.standing.StandingFile.{StandingFile}
use Rattle.cm_recover.specs.Standing.{IsStanding}
use Rattle.cm_maintenance.specs.declared.report.Report.{Report}
use Rattle.cm_maintenance.specs.Report.{Reports, IsCount, first_records}
use Rattle.cm_maintenance.proofs.Tallies.{each_counts}
use Rattle.cm_maintenance.proofs.Counts.{loaders_counted, chunks_counted}

-- ---- rows that keep something else of each class

numbers-with : {P Q : Type 0} (f : P → Q) (rows : List (Row P))
    → numbers_in (rows_with f rows) ≡ numbers_in rows
numbers-with f [] = refl
numbers-with f (Loader r ∷ rows) = ap (λ (l : List ℕ). r.number ∷ l) (numbers-with f rows)
numbers-with f (Class r p ∷ rows) = numbers-with f rows

classes-with : {P Q : Type 0} (f : P → Q) (rows : List (Row P))
    → classes_in (rows_with f rows) ≡ classes_in rows
classes-with f [] = refl
classes-with f (Loader r ∷ rows) = classes-with f rows
classes-with f (Class r p ∷ rows) = ap (λ (l : List ClassRow). r ∷ l) (classes-with f rows)

bare-with : {P Q : Type 0} (f : P → Q) (rows : List (Row P))
    → bare (rows_with f rows) ≡ bare rows
bare-with f [] = refl
bare-with f (Loader r ∷ rows) = ap (λ l. Loader r ∷ l) (bare-with f rows)
bare-with f (Class r p ∷ rows) = ap (λ l. Class r (tt {0}) ∷ l) (bare-with f rows)

-- ---- the file

module _ (live : FoundIsLive) (framed : FoundIsFramed) (stands : VerdictStands)
    (sizes : SizesAgree ClassFile) (own : LoadersAreOwn) (contents : List ℕ) (s : Standing)
    (e : verdict contents ≡ Ok s) where
  abbrev p : Proves contents s
  p = stands contents s e

  abbrev f : IsFramed contents s.found
  f = framed contents s.found p.found p.whole

  live_here : LiveRowsKeep s.found.sizes s.found.number [] (bare s.rows)
  live_here =
      subst (LiveRowsKeep s.found.sizes s.found.number [])
      (sym (sym (bare-with lay s.rows) ∙ (ap (λ (rows : List (Row (List ℕ))). bare rows) p.words
      ∙ bare_words s.found.sizes contents s.found.rows)))
      (live contents s.found p.found).live

  apart_here : AreApart (classes_in s.rows)
  apart_here =
      subst AreApart
      (ap (λ (rows : List (Row (List ℕ))). classes_in rows) (sym p.words)
      ∙ classes-with lay s.rows) f.right.apart

  cache : AreCacheRows class_shows s.found.sizes s.found.number s.rows
  cache = record { live = live_here; apart = apart_here; differ = p.differ }

  loaders : HasOwnLoaders s.found.number (bare s.rows)
  loaders = own s.found.sizes s.found.number (bare s.rows) live_here

  owned : (r : ClassRow) → Among r (classes_in s.rows) → is_live r.loader s.rows ≡ true
  owned r among =
      ap is_some (sym (name-bare r.loader s.rows))
      ∙ loaders.owned r (subst (λ (l : List ClassRow). Among r l) (sym (classes-bare s.rows)) among)

  pub reports : (report : Report) → IsCount s.rows s.found.number report
      → Reports contents report s
  reports report counted = record {
    stands = p.stands;
    counts = record {
      loaders = counted.loaders ∙ sym (loaders_counted class_shows s.rows s.rows
          (differ-bare s.rows loaders.differ));
      classes =
          let size = (sizes class_shows s.found.sizes s.found.number s.rows cache).0 in
          let each = each_counts s.rows in
          omega (arith, size, each, counted.loaders, counted.classes);
      chunks = counted.chunks
          ∙ sym (chunks_counted s.rows (differ-bare s.rows loaders.differ) owned);
      number = counted.number;
    };
  }

-- the count of the file's rows is that of what it stands for
pub counted : (contents : List ℕ) (file : StandingFile) (s : Standing) (report : Report)
    → IsStanding contents file s → IsCount file.rows.rows file.journal.number report
    → IsCount s.rows s.found.number report
counted contents file s report is count =
    let rows : file.rows.rows ≡ rows_with lay s.rows =
    ap (λ (l : LiveRows (List ℕ)). l.rows) is.rows in
    let classes : classes_in file.rows.rows ≡ classes_in s.rows =
    ap (λ (l : List (Row (List ℕ))). classes_in l) rows ∙ classes-with lay s.rows in
    record {
      loaders = count.loaders ∙ ap length
          (ap (λ (l : List (Row (List ℕ))). numbers_in l) rows ∙ numbers-with lay s.rows);
      classes = count.classes ∙ ap length classes;
      chunks = count.chunks ∙ ap first_records classes;
      number = count.number ∙ is.number;
    }
