use Rattle.std.proofs.Common.{ℕ, List, length, ap, ◌∙◌, arith}
use Rattle.cm_layout.specs.declared.row.Row.{Row}
use Rattle.cm_layout.specs.Rows.{numbers_in, classes_in}
use Rattle.cm_maintenance.specs.Report.{first_records}
use Rattle.cm_maintenance.proofs.Tallies.{apart, each_counts}
use Rattle.cm_maintenance.proofs.report.count.Goals as goal

pub with_row-report-requires-clause-room : goal.with_row-report-requires-clause-room
with_row-report-requires-clause-room c =
    let l = c.loop-row in
    let p = apart c.in-Some.row.now c.next.new.self in
    let numbers = ap (λ (rows : List (Row (List ℕ))). length (numbers_in rows)) c.in-Some.ensures in
    let classes = ap (λ (rows : List (Row (List ℕ))). length (classes_in rows)) c.in-Some.ensures in
    let each = each_counts c.args.rows.now.rows in
    omega (
      arith,
      l.invariant.loaders,
      l.invariant.classes,
      numbers,
      classes,
      p.loaders,
      p.classes,
      p.one,
      each,
      c.len-rows.ensures,
      c.len-rows.type_inv,
    )

pub loop-row-preserved : goal.loop-row-preserved
loop-row-preserved c =
    let l = c.loop-row in
    let p = apart c.in-Some.row.now c.next.new.self in
    let numbers = ap (λ (rows : List (Row (List ℕ))). length (numbers_in rows)) c.in-Some.ensures in
    let classes = ap (λ (rows : List (Row (List ℕ))). length (classes_in rows)) c.in-Some.ensures in
    let firsts =
    ap (λ (rows : List (Row (List ℕ))). first_records (classes_in rows)) c.in-Some.ensures in
    let now = c.with_row-report.ensures in
    record {
      loaders = omega (arith, l.invariant.loaders, numbers, p.loaders, now.loaders);
      classes = omega (arith, l.invariant.classes, classes, p.classes, now.classes);
      chunks = omega (arith, l.invariant.chunks, firsts, p.chunks, now.chunks);
      few = omega (arith, l.invariant.few, p.few, now.classes, now.chunks);
      number = now.number ∙ l.invariant.number;
    }

pub returns : goal.returns
returns c =
    let l = c.loop-row in
    let numbers =
    ap (λ (rows : List (Row (List ℕ))). length (numbers_in rows)) c.in_default.ensures in
    let classes =
    ap (λ (rows : List (Row (List ℕ))). length (classes_in rows)) c.in_default.ensures in
    let firsts =
    ap (λ (rows : List (Row (List ℕ))). first_records (classes_in rows)) c.in_default.ensures in
    record {
      loaders = omega (arith, l.invariant.loaders, numbers);
      classes = omega (arith, l.invariant.classes, classes);
      chunks = omega (arith, l.invariant.chunks, firsts);
      number = l.invariant.number;
    }
