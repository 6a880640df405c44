use Rattle.std.proofs.Common.{ℕ, ◌==◌, List, filter, subst}
use Rattle.std.specs.List.{AllByRecursion}
use Rattle.cm_layout.specs.declared.row.Row.{Row}
use Rattle.cm_layout.specs.Rows.{classes_in}
use Rattle.cm_statistics.specs.Usage.{usage, usage_kept, key_of, AddUp, IsSmallRow}
use Rattle.cm_statistics.proofs.Rows.{key-room, key-adds, small-rest}
use Rattle.cm_statistics.proofs.counting.count_by.Goals as goal

pub add_row-requires : goal.add_row-requires
add_row-requires c =
    let l = c.loop-row in
    let all = classes_in c.args.rows.now.rows in
    key-room c.args.by all c.in-Some.row.now c.next.new.self l.counted
    (subst (λ (rows : List (Row (List ℕ))). (k : ℕ) → AddUp (usage_kept l.counted k)
    (usage (filter (λ r. key_of c.args.by r == k) (classes_in rows)))
    (usage (filter (λ r. key_of c.args.by r == k) all))) c.in-Some.ensures l.invariant.adds)
    (subst (λ (rows : List (Row (List ℕ))). AllByRecursion IsSmallRow (classes_in rows))
    c.in-Some.ensures l.invariant.small)
    c.requires.each c.requires.few

pub loop-row-preserved : goal.loop-row-preserved
loop-row-preserved c =
    let l = c.loop-row in
    let all = classes_in c.args.rows.now.rows in
    record {
      adds = key-adds c.args.by all c.in-Some.row.now c.next.new.self l.counted
          c.add_row.new.counted c.in_ok-add_row.ensures
          (subst (λ (rows : List (Row (List ℕ))). (k : ℕ) → AddUp (usage_kept l.counted k)
          (usage (filter (λ r. key_of c.args.by r == k) (classes_in rows)))
          (usage (filter (λ r. key_of c.args.by r == k) all))) c.in-Some.ensures l.invariant.adds);
      small = small-rest c.in-Some.row.now c.next.new.self
          (subst (λ (rows : List (Row (List ℕ))). AllByRecursion IsSmallRow (classes_in rows))
          c.in-Some.ensures l.invariant.small);
    }
