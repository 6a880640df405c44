use Rattle.std.proofs.Common.{ℕ, List, [], length, refl, sym, ap, subst, ◌∙◌, arith}
use Rattle.cm_layout.specs.declared.row.Row.{Row}
use Rattle.cm_layout.specs.Rows.{bare}
use Rattle.cm_layout.specs.Frames.{LiveRowsKeep}
use Rattle.cm_pool.specs.Geometry.{Sizes}
use Rattle.cm_verdict.specs.declared.defined_at.DefinedAt.{DefinedAt}
use Rattle.cm_verdict.specs.Verdict.{verdict}
use Rattle.cm_verdict.specs.Judging.{AreTaken}
use Rattle.cm_verdict.specs.Opening.{IsFaultIn, found_of}
use Rattle.cm_verdict.proofs.Verdicts.{no_found}
use Rattle.cm_verdict.proofs.RecordRows.{if_err, moved}
use Rattle.cm_verdict.proofs.standing.read_rows.Goals as goal

pub returns-in_err-found-clause-fault : goal.returns-in_err-found-clause-fault
returns-in_err-found-clause-fault g c =
    let contents = g.D.Disk.view.contents c.args.disk.now in
    let e = c.in_err-found.field-0.0 in
    if_err c.from_residual.result e (λ f. IsFaultIn f (verdict contents))
    c.from_residual.ensures.1 (no_found contents e c.in_err-found.ensures.found)

pub take_words-requires-clause-live : goal.take_words-requires-clause-live
take_words-requires-clause-live g c =
    let contents = g.D.Disk.view.contents c.args.disk.now in
    let f = found_of c.in_ok-found.found in
    let live = c.found_is_live.ensures contents f c.in_ok-found.ensures.found in
    moved (λ (s : Sizes) (n : ℕ) (rows : List (Row DefinedAt)). LiveRowsKeep s n [] (bare rows))
    f.sizes f.sizes c.number.result f.number c.into_book-rows.result.rows f.rows refl
    c.number.ensures c.into_book-rows.ensures live.live

pub returns-clause-rows : goal.returns-clause-rows
returns-clause-rows g c =
    let contents = g.D.Disk.view.contents c.args.disk.now in
    let f = found_of c.in_ok-found.found in
    let now = c.len.ensures.looks.same ∙ c.in_ok-found.ensures.reads.contents_stay in
    let sound = g.met.D.Disk.sound c.args.disk.now in
    let live = c.found_is_live.ensures contents f c.in_ok-found.ensures.found in
    record {
      found = f;
      is = record {
        found_is = c.in_ok-found.ensures.found;
        geometry = refl;
        long = c.in_ok-len.ensures.len ∙ ap length c.in_ok-found.ensures.reads.contents_stay;
        number = c.number.ensures;
        rows = c.into_book-rows.ensures;
        half = refl;
        head = refl;
        end = c.end-end.ensures;
        other = c.in_ok-found.ensures.other;
        short = omega (arith, sound.greatest, sound.limit);
        live = live.live;
      };
      taken = moved (λ (s : Sizes) (n : ℕ) (rows : List (Row DefinedAt)).
          AreTaken s contents rows c.in_ok-records.records.items) f.sizes f.sizes 0 0 f.rows
          c.into_book-rows.result.rows refl refl (sym c.into_book-rows.ensures)
          (subst (λ (l : List ℕ). AreTaken f.sizes l c.into_book-rows.result.rows
          c.in_ok-records.records.items) now c.in_ok-records.ensures.words);
    }
