use Rattle.std.proofs.Common.{rules, ℕ, List, [], length, refl, ap, subst, ◌∙◌}
use Rattle.std.specs.List.Sorted.{IsPermutation}
use Rattle.std.proofs.lemmas.List.Sorted.{IsNonDecreasingBy-from_sort_by_key}
use Rattle.cm_disk.specs.declared.disk.WordRange.{WordRange}
use Rattle.cm_pool.specs.Geometry.{Sizes}
use Rattle.cm_layout.specs.declared.row.Row.{Row}
use Rattle.cm_layout.specs.Rows.{bare}
use Rattle.cm_layout.specs.Frames.{LiveRowsKeep}
use Rattle.cm_verdict.specs.declared.defined_at.DefinedAt.{DefinedAt}
use Rattle.cm_verdict.specs.Verdict.{verdict}
use Rattle.cm_verdict.specs.Opening.{IsFaultIn, found_of}
use Rattle.cm_verdict.specs.Ranges.{ranges_of_rows}
use Rattle.cm_verdict.proofs.Verdicts.{no_found}
use Rattle.cm_verdict.proofs.RecordRows.{if_err, moved}
use Rattle.cm_verdict.proofs.ranges.record_ranges.Goals as goal

pub returns-in_err-found-clause-fault : goal.returns-in_err-found-clause-fault
returns-in_err-found-clause-fault g c =
    let contents = g.D.Disk.view.contents c.args.disk.now in
    let e = c.in_err-found.field-0.0 in
    if_err c.from_residual.result e (λ f. IsFaultIn f (verdict contents))
    c.from_residual.ensures.1 (no_found contents e c.in_err-found.ensures.found)

pub ranges_of-requires : goal.ranges_of-requires
ranges_of-requires g c =
    let contents = g.D.Disk.view.contents c.args.disk.now in
    let f = found_of c.in_ok-found.found in
    let live = c.found_is_live.ensures contents f c.in_ok-found.ensures.found in
    moved (λ (s : Sizes) (n : ℕ) (rows : List (Row DefinedAt)). LiveRowsKeep s n [] (bare rows))
    f.sizes f.sizes c.number.result f.number c.into_book.result.rows f.rows refl
    c.number.ensures c.into_book.ensures live.live

pub returns-clause-ranges : goal.returns-clause-ranges
returns-clause-ranges g c =
    let contents = g.D.Disk.view.contents c.args.disk.now in
    let f = found_of c.in_ok-found.found in
    let long = c.in_ok-len.ensures.len ∙ ap length c.in_ok-found.ensures.reads.contents_stay in
    record {
      found = f;
      found_is = c.in_ok-found.ensures.found;
      exactly = subst
          (λ (l : List WordRange). IsPermutation l c.sort_unstable_by_key.new.self.items)
          ((c.in_ok-ranges.ensures {u = tt})
          ∙ λ i. ranges_of_rows c.in_ok-found.found.geometry (long i) (c.into_book.ensures i))
          c.sort_unstable_by_key.ensures.permutation;
      in_order = IsNonDecreasingBy-from_sort_by_key (λ (r : WordRange). r.at) _
          c.sort_unstable_by_key.ensures.sorted (λ a r q k. search rules);
    }
