use Rattle.std.proofs.Common.{◌≡◌, ◌+◌, ◌∙◌, arith, sym}
use Rattle.std.specs.Arc.{arc_value}
use Rattle.cm_layout.specs.Rows.{bare, rows_with, slots_of_rows}
use Rattle.cm_commit.proofs.With.{counted-with}
use Rattle.cm_commit.proofs.journal_end.renewed_head.Goals as goal

pub overflow_cast-result : goal.overflow_cast-result
overflow_cast-result c =
    let half = c.requires in
    let count = counted-with arc_value c.args.rows.now.rows in
    omega (arith, half.few, half.lawful.slots_to, count, c.slots.ensures)

pub returns : goal.returns
returns c =
    let j = c.args.journal.now in
    let count : c.slots.result ≡ slots_of_rows (bare (rows_with arc_value c.args.rows.now.rows)) =
    c.slots.ensures ∙ sym (counted-with arc_value c.args.rows.now.rows) in
    λ i. record { version = 2; live = count i; epoch = j.epoch + 1; base = j.number }
