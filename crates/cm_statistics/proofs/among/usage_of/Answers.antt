use Rattle.std.proofs.Common.{ℕ, List, filter, sym, subst}
use Rattle.std.specs.List.{AllByRecursion}
use Rattle.cm_layout.specs.declared.row.Row.{Row}
use Rattle.cm_layout.specs.Rows.{classes_in}
use Rattle.cm_statistics.specs.Usage.{usage, is_among, AddUp, IsSmallRow}
use Rattle.cm_statistics.proofs.Rows.{row-room, row-adds, small-rest}
use Rattle.cm_statistics.proofs.among.usage_of.Goals as goal

pub with_row-usage-requires : goal.with_row-usage-requires
with_row-usage-requires c =
    let l = c.loop-row in
    let all = classes_in c.args.rows.now.rows in
    row-room c.args.among all c.in-Some.row.now c.next.new.self l.usage
    (subst (λ (rows : List (Row (List ℕ))).
    AddUp l.usage (usage (filter (is_among c.args.among) (classes_in rows)))
    (usage (filter (is_among c.args.among) all))) c.in-Some.ensures l.invariant.adds)
    (subst (λ (rows : List (Row (List ℕ))). AllByRecursion IsSmallRow (classes_in rows))
    c.in-Some.ensures l.invariant.small)
    c.requires.each c.requires.few

pub loop-row-preserved : goal.loop-row-preserved
loop-row-preserved c =
    let l = c.loop-row in
    let all = classes_in c.args.rows.now.rows in
    let small = subst (λ (rows : List (Row (List ℕ))). AllByRecursion IsSmallRow (classes_in rows))
    c.in-Some.ensures l.invariant.small in
    record {
      adds = subst (λ u. AddUp u (usage (filter (is_among c.args.among)
          (classes_in c.next.new.self))) (usage (filter (is_among c.args.among) all)))
          (sym c.with_row-usage.ensures)
          (row-adds c.args.among all c.in-Some.row.now c.next.new.self l.usage
          (subst (λ (rows : List (Row (List ℕ))).
          AddUp l.usage (usage (filter (is_among c.args.among) (classes_in rows)))
          (usage (filter (is_among c.args.among) all))) c.in-Some.ensures l.invariant.adds));
      small = small-rest c.in-Some.row.now c.next.new.self small;
    }
