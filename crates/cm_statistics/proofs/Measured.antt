-- What is measured of rows is measured of what the contents stand for.
-- For `statistics`, `measure`.
use Rattle.std.proofs.Common.{◌≡◌, ℕ, List, [], ◌∷◌, length, map, filter, refl, sym, ap, subst}
use Rattle.std.proofs.Common.{◌∙◌, Ok}
use Rattle.cm_record.specs.Layout.{lay}
use Rattle.cm_layout.specs.declared.class_row.ClassRow.{ClassRow}
use Rattle.cm_layout.specs.declared.row.Row.{Row}
use Rattle.cm_layout.specs.Rows.{rows_with, bare, classes_in}
use Rattle.cm_layout.specs.Frames.{LiveRowsKeep}
use Rattle.cm_rows.specs.Rows.{LiveRows}
use Rattle.cm_commit.specs.Trims.{roots_of_rows}
use Rattle.cm_verdict.specs.Verdict.{Standing, verdict}
use Rattle.cm_verdict.specs.Laws.{FoundIsLive, VerdictStands}
use Rattle.cm_verdict.proofs.{bare_words}
use Rattle.cm_recover.specs.declared.standing.StandingFile.{StandingFile}
use Rattle.cm_recover.specs.Standing.{IsStanding}
use Rattle.cm_statistics.specs.declared.among.Among.TheVariants.{All}
use Rattle.cm_statistics.specs.declared.report.Statistics.{Statistics}
use Rattle.cm_statistics.specs.Usage.{AreSmall, usage, usage_by_order, usage_by_loader, is_among}
use Rattle.cm_statistics.specs.Usage.{loader_shown, owned_chunks}
use Rattle.cm_statistics.specs.Unused.{IsLargestUnused}
use Rattle.cm_statistics.specs.Statistics.{Measures, JournalMeasures, trimmed_len, rows_in}
use Rattle.cm_statistics.proofs.Small.{are_small}

pub small : FoundIsLive → VerdictStands → (contents : List ℕ) (s : Standing)
    → verdict contents ≡ Ok s → (file : StandingFile) → IsStanding contents file s
    → AreSmall file.rows.rows
small live stands contents s e file is =
    let p = stands contents s e in
    let l = live contents s.found p.found in
    let rows : LiveRowsKeep s.found.sizes s.found.number [] (bare (rows_with lay s.rows)) =
    subst (LiveRowsKeep s.found.sizes s.found.number [])
    (sym (ap (λ (rows : List (Row (List ℕ))). bare rows) p.words
    ∙ bare_words s.found.sizes contents s.found.rows)) l.live in
    subst (λ (r : LiveRows (List ℕ)). AreSmall r.rows) (sym is.rows)
    (are_small s.found.sizes l.lawful s.found.number (rows_with lay s.rows) rows)

filter-all : (rows : List ClassRow) → filter (is_among All) rows ≡ rows
filter-all [] = refl
filter-all (r ∷ rows) = ap (λ l. r ∷ l) (filter-all rows)

-- what was counted of the file's rows
pub record AreMeasured (file : StandingFile) (rows : LiveRows (List ℕ)) (t : Statistics)
    : Type 0 where
  pub same : rows ≡ file.rows
  pub geometry : t.geometry ≡ file.journal.geometry
  pub number : t.number ≡ file.journal.number
  pub roots : t.roots ≡ file.roots
  pub used : t.used_roots ≡ roots_of_rows rows.rows
  pub trimmed : t.trimmed ≡ trimmed_len file.journal.geometry t.bytes file.roots t.used_roots
  pub free : IsLargestUnused file.rows t.largest_free
  pub usage : t.usage ≡ usage (filter (is_among All) (classes_in rows.rows))
  pub orders : t.orders.items
      ≡ usage_by_order file.journal.geometry.top (classes_in rows.rows)
  pub loaders : map loader_shown t.loaders.items ≡ usage_by_loader rows.rows
  pub chunks : t.chunks.items ≡ owned_chunks (classes_in rows.rows)

pub measures : (contents : List ℕ) (s : Standing) (file : StandingFile) (rows : LiveRows (List ℕ))
    (t : Statistics) → IsStanding contents file s → AreMeasured file rows t
    → JournalMeasures s t.journal → t.bytes ≡ length contents → Measures contents t s
measures contents s file rows t is m journal bytes = record {
  geometry = m.geometry ∙ is.geometry;
  number = m.number ∙ is.number;
  journal = journal;
  region = record {
    bytes = bytes;
    roots = m.roots ∙ is.roots;
    used_roots = used;
    trimmed = m.trimmed ∙ (λ i. trimmed_len (is.geometry i) (bytes i) (is.roots i) (used i));
    largest_free = subst (λ (r : LiveRows (List ℕ)). IsLargestUnused r t.largest_free) is.rows
        m.free;
  };
  rows = record {
    usage = m.usage ∙ (ap usage (filter-all (classes_in rows.rows))
        ∙ ap (λ (r : LiveRows (List ℕ)). usage (classes_in r.rows)) all);
    orders = m.orders ∙ (λ i. usage_by_order ((is.geometry i).top) (classes_in (all i).rows));
    loaders = m.loaders ∙ ap (λ (r : LiveRows (List ℕ)). usage_by_loader r.rows) all;
    chunks = m.chunks ∙ ap (λ (r : LiveRows (List ℕ)). owned_chunks (classes_in r.rows)) all;
  };
}
  where
    all : rows ≡ rows_in s
    all = m.same ∙ is.rows

    used : t.used_roots ≡ roots_of_rows (rows_in s).rows
    used = m.used ∙ ap (λ (r : LiveRows (List ℕ)). roots_of_rows r.rows) all
