use Rattle.std.proofs.Common.{◌+◌, ap, ◌∙◌}
use Rattle.std.specs.Arc.{arc_value}
use Rattle.cm_layout.specs.Rows.{bare, rows_with}
use Rattle.cm_commit.specs.Checkpoints.{half_behind_gate}
use Rattle.cm_commit.specs.Steps.{renewed_write}
use Rattle.cm_commit.proofs.NextWrites.{wrote_as}
use Rattle.cm_commit.proofs.checkpoint.write_half.Goals as goal

pub returns-clause-written : goal.returns-clause-written
returns-clause-written g c =
    let j = c.args.journal.now in
    let rows = bare (rows_with arc_value c.args.rows.now.rows) in
    wrote_as g.D.Disk.view c.args.disk.now c.write_at.new.self (renewed_write j rows)
    (record { at = c.half_gate.result + 1; bytes = c.deref.result.now }) c.write_at.result
    (ap (λ k. k + 1) c.half_gate.ensures)
    (c.deref.ensures.value
    ∙ (c.put_half.ensures.bytes
    ∙ ap (λ h. half_behind_gate h rows) c.renewed_head-head.ensures))
    c.write_at.ensures.writes
