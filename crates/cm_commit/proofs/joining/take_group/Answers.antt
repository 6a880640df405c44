use Rattle.std.proofs.Common.{Bool, List, [], sym, ap, subst, ◌∙◌}
use Rattle.std.specs.Prelude.{◌&&◌, ◌↔◌, IsTrue}
use Rattle.std.specs.Arc.{arc_value}
use Rattle.cm_layout.specs.Rows.{rows_with}
use Rattle.cm_rows.specs.Rows.{LiveRows}
use Rattle.cm_group.specs.Groups.{Carried}
use Rattle.cm_commit.specs.Joining.{may_join, AllMoveThem}
use Rattle.cm_commit.specs.Offers.{MayCome}
use Rattle.cm_commit.proofs.Coming.{comes, comes_not}
use Rattle.cm_commit.proofs.joining.take_group.Goals as goal
use Rattle.cm_commit.proofs.joining.take_group.Goals.{then-may_join, else-may_join}

pub returns-then-not-joins-clause-comes : goal.returns-then-not-joins-clause-comes
returns-then-not-joins-clause-comes c =
    let j = c.args.journal.now in
    let rows = rows_with arc_value c.args.rows.now.rows in
    let group = c.args.group.now in
    let on = sym c.goes_on.ensures.on ∙ c.if-not-goes_on.false in
    let same = c.may_join.ensures.joins
    ∙ (λ i. may_join (c.requires.sizes i) rows j.number (c.entries-entries.ensures i)) in
    elim c.if-may_join.branch [
      | then-may_join w ↦
          let moves : IsTrue w.all_move_them-joins.result ↔ AllMoveThem rows [] group.entries =
          subst (λ (l : List Carried). IsTrue w.all_move_them-joins.result ↔ AllMoveThem rows [] l)
          c.entries-entries.ensures
          (subst (λ (b : LiveRows _). IsTrue w.all_move_them-joins.result
          ↔ AllMoveThem (rows_with arc_value b.rows) [] c.entries-entries.result.now)
          c.may_join.ensures.same w.all_move_them-joins.ensures) in
          subst (λ (t : Bool). IsTrue t ↔ MayCome j.geometry rows j.number group)
          (ap (λ (t : Bool). t && w.all_move_them-joins.result) w.if-may_join.true
          ∙ sym w.joins-is)
          (comes j.geometry j.number rows group c.requires.lawful c.requires.cache
          c.goes_on.ensures.lawful on c.may_join.result w.all_move_them-joins.result same moves)
      | else-may_join w ↦
          subst (λ (t : Bool). IsTrue t ↔ MayCome j.geometry rows j.number group) (sym w.joins-is)
          (comes_not j.geometry j.number rows group c.requires.cache c.may_join.result same
          w.if-may_join.false)
    ]

pub returns-else-not-joins-clause-comes : goal.returns-else-not-joins-clause-comes
returns-else-not-joins-clause-comes c =
    let j = c.args.journal.now in
    let rows = rows_with arc_value c.args.rows.now.rows in
    let group = c.args.group.now in
    let on = sym c.goes_on.ensures.on ∙ c.if-not-goes_on.false in
    let same = c.may_join.ensures.joins
    ∙ (λ i. may_join (c.requires.sizes i) rows j.number (c.entries-entries.ensures i)) in
    elim c.if-may_join.branch [
      | then-may_join w ↦
          let moves : IsTrue w.all_move_them-joins.result ↔ AllMoveThem rows [] group.entries =
          subst (λ (l : List Carried). IsTrue w.all_move_them-joins.result ↔ AllMoveThem rows [] l)
          c.entries-entries.ensures
          (subst (λ (b : LiveRows _). IsTrue w.all_move_them-joins.result
          ↔ AllMoveThem (rows_with arc_value b.rows) [] c.entries-entries.result.now)
          c.may_join.ensures.same w.all_move_them-joins.ensures) in
          subst (λ (t : Bool). IsTrue t ↔ MayCome j.geometry rows j.number group)
          (ap (λ (t : Bool). t && w.all_move_them-joins.result) w.if-may_join.true
          ∙ sym w.joins-is)
          (comes j.geometry j.number rows group c.requires.lawful c.requires.cache
          c.goes_on.ensures.lawful on c.may_join.result w.all_move_them-joins.result same moves)
      | else-may_join w ↦
          subst (λ (t : Bool). IsTrue t ↔ MayCome j.geometry rows j.number group) (sym w.joins-is)
          (comes_not j.geometry j.number rows group c.requires.cache c.may_join.result same
          w.if-may_join.false)
    ]
