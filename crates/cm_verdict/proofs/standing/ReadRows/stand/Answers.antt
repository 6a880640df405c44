use Rattle.std.proofs.Common.{ℕ, List, [], refl, sym}
use Rattle.cm_layout.specs.declared.row.Row.{Row}
use Rattle.cm_layout.specs.Rows.{bare}
use Rattle.cm_layout.specs.Frames.{LiveRowsKeep}
use Rattle.cm_pool.specs.Geometry.{Sizes}
use Rattle.cm_verdict.specs.declared.defined_at.DefinedAt.{DefinedAt}
use Rattle.cm_verdict.specs.Verdict.{classes_found, verdict}
use Rattle.cm_verdict.specs.declared.standing.ReadRows.{ReadRows}
use Rattle.cm_verdict.specs.Judging.{AreJudged}
use Rattle.cm_verdict.specs.Opening.{IsFaultIn}
use Rattle.cm_verdict.specs.Standing.{ReportsOk, AreRecorded, IsJudgedFile, IsJudgedOf}
use Rattle.cm_verdict.proofs.Verdicts.{fault_told, no_classes}
use Rattle.cm_verdict.proofs.Assembled.{assembled}
use Rattle.cm_verdict.proofs.RecordRows.{moved}
use Rattle.cm_verdict.proofs.standing.ReadRows.stand.Goals as goal

judged_in : (contents : List ℕ) (file : ReadRows) (j : IsJudgedOf contents file)
    → AreJudged file.pass.geometry contents file.found.rows file.records.items
judged_in contents file j =
    let f = j.found in
    moved (λ (s : Sizes) (n : ℕ) (rows : List (Row DefinedAt)).
    AreJudged s contents rows file.records.items) file.pass.geometry f.sizes 0 0 file.found.rows
    f.rows j.is.geometry refl j.is.rows j.judged

pub take_all-requires-clause-live : goal.take_all-requires-clause-live
take_all-requires-clause-live c =
    let file = c.args.self in
    let j = c.requires.1 in
    let f = j.found in
    moved (λ (s : Sizes) (n : ℕ) (rows : List (Row DefinedAt)). LiveRowsKeep s n [] (bare rows))
    file.pass.geometry f.sizes file.pass.number f.number file.found.rows f.rows j.is.geometry
    j.is.number j.is.rows j.is.live

pub take_all-requires-clause-judged : goal.take_all-requires-clause-judged
take_all-requires-clause-judged c =
    (c.requires.0, judged_in c.requires.0 c.args.self c.requires.1)

pub returns-in_err-rows-clause-standing : goal.returns-in_err-rows-clause-standing
returns-in_err-rows-clause-standing c = λ contents j.
    let file = c.args.self in
    let f = j.found in
    let e = c.in_err-rows.field-0.0 in
    fault_told (IsJudgedFile contents) c.from_residual.result e (verdict contents)
    c.from_residual.ensures.1
    (no_classes contents f j.is.found_is e
    (moved (λ (s : Sizes) (n : ℕ) (rows : List (Row DefinedAt)).
    IsFaultIn e (classes_found s contents [] rows)) f.sizes file.pass.geometry 0 0 f.rows
    file.found.rows (sym j.is.geometry) refl (sym j.is.rows)
    (c.in_err-rows.ensures.classes contents (judged_in contents file j))))

pub returns-clause-standing : goal.returns-clause-standing
returns-clause-standing c = λ contents j.
    let file = c.args.self in
    let f = j.found in
    let rows = c.in_ok-rows.rows in
    assembled contents _ f rows j.is.found_is
    (moved (λ (s : Sizes) (n : ℕ) (l : List (Row DefinedAt)).
    ReportsOk (AreRecorded s) (classes_found s contents [] l) rows) f.sizes file.pass.geometry 0 0
    f.rows file.found.rows (sym j.is.geometry) refl (sym j.is.rows)
    (c.in_ok-rows.ensures.classes contents (judged_in contents file j)))
    (record {
      geometry = j.is.geometry;
      half = j.is.half;
      head = j.is.head;
      other = j.is.other;
      end = j.is.end;
      number = j.is.number;
      long = j.is.long;
      short = j.is.short;
      rows_are = c.into_books-rows.ensures.accepted;
      committed_sizes = c.into_books-rows.ensures.sizes;
      committed = c.into_books-rows.ensures.committed;
    })
