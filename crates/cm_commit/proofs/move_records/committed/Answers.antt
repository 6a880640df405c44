use Rattle.std.proofs.Common.{Some, None, refl, sym, ◌∙◌}
use Rattle.std.specs.Arc.{arc_value}
use Rattle.cm_commit.proofs.MovedWalk.{none-committed, kept-committed, flipped, upright}
use Rattle.cm_commit.proofs.move_records.committed.Goals as goal

pub returns-in_err-last : goal.returns-in_err-last
returns-in_err-last c =
    rw c.from_residual.ensures
    (none-committed arc_value c.args.loader c.args.chunk.now c.args.rows.now.rows None
    (sym c.last.ensures ∙ c.in_err-last.was) refl)

pub returns-then-ne : goal.returns-then-ne
returns-then-ne c =
    none-committed arc_value c.args.loader c.args.chunk.now c.args.rows.now.rows
    (Some c.in_ok-last.last) (sym c.last.ensures ∙ c.in_ok-last.was)
    (flipped c.ne.result _ c.ne.ensures c.if-ne.true)

pub returns : goal.returns
returns c =
    kept-committed arc_value c.args.loader c.args.chunk.now c.args.rows.now.rows c.in_ok-last.last
    c.last_kept.result (sym c.last.ensures ∙ c.in_ok-last.was)
    (upright c.ne.result _ c.ne.ensures c.if-ne.false) c.last_kept.ensures
