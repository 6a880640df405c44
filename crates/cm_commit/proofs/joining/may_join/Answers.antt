use Rattle.std.proofs.Common.{◌≡◌, ◌+◌, true, List, [], sym, ap, subst, ◌∙◌}
use Rattle.std.specs.Arc.{arc_value}
use Rattle.cm_layout.specs.Rows.{bare, rows_with}
use Rattle.cm_layout.specs.Frames.{BareRow}
use Rattle.cm_rows.specs.Rows.{LiveRows, is_above}
use Rattle.cm_commit.specs.Joining.{are_new}
use Rattle.cm_commit.proofs.Committing.{next_above}
use Rattle.cm_commit.proofs.With.{bare-with}
use Rattle.cm_commit.proofs.Testing.{breaks, overwrites, names_left, inside}
use Rattle.cm_commit.proofs.joining.may_join.Goals as goal

pub apply_all-requires-clause-above : goal.apply_all-requires-clause-above
apply_all-requires-clause-above c =
    let rows = c.args.rows.now in
    subst (λ (b : LiveRows (Unit {0})). is_above (c.args.number + 1) b.rows ≡ true)
    (sym c.requires.next_is)
    (subst (λ (l : List BareRow). is_above (c.args.number + 1) l ≡ true)
    (bare-with arc_value rows.rows)
    (next_above rows.sizes c.args.number (bare (rows_with arc_value rows.rows))
    c.requires.cache.live))

pub returns-then-not-apply_all-clause-joins : goal.returns-then-not-apply_all-clause-joins
returns-then-not-apply_all-clause-joins c =
    let rows = c.args.rows.now in
    breaks arc_value rows.sizes rows.rows c.args.number c.args.entries.now c.args.next.now
    c.requires.next_is c.apply_all.result c.apply_all.ensures.kept
    (sym c.all_carry_own.ensures.own ∙ c.if-not-all_carry_own.false) c.if-not-apply_all.true

pub all_write_apart-requires : goal.all_write_apart-requires
all_write_apart-requires c =
    let rows = c.args.rows.now in
    record {
      inside = inside arc_value rows.sizes rows.rows c.args.number c.args.entries.now
          c.args.next.now c.requires.next_is c.apply_all.result c.apply_all.ensures.kept
          c.if-not-apply_all.false;
    }

pub returns-then-all_write_apart-clause-joins : goal.returns-then-all_write_apart-clause-joins
returns-then-all_write_apart-clause-joins c =
    let rows = c.args.rows.now in
    c.are_new.ensures
    ∙ (ap (λ (l : LiveRows _). are_new (rows_with arc_value l.rows) [] c.args.entries.now)
    c.all_write_apart.ensures.same
    ∙ names_left arc_value rows.sizes rows.rows c.args.number c.args.entries.now c.args.next.now
    c.requires.next_is c.apply_all.result c.apply_all.ensures.kept
    (sym c.all_carry_own.ensures.own ∙ c.if-not-all_carry_own.false) c.if-not-apply_all.false
    (sym c.all_write_apart.ensures.apart ∙ c.if-all_write_apart.true))

pub returns-else-all_write_apart-clause-joins : goal.returns-else-all_write_apart-clause-joins
returns-else-all_write_apart-clause-joins c =
    let rows = c.args.rows.now in
    c.if-all_write_apart.false
    ∙ overwrites arc_value rows.sizes rows.rows c.args.number c.args.entries.now c.args.next.now
    c.requires.next_is c.apply_all.result c.apply_all.ensures.kept
    (sym c.all_carry_own.ensures.own ∙ c.if-not-all_carry_own.false) c.if-not-apply_all.false
    (sym c.all_write_apart.ensures.apart ∙ c.if-all_write_apart.false)
