use Rattle.std.specs.Prelude.{ℕ, List}
use Rattle.cm_class.specs.declared.class_file.ClassFile.{ClassFile}
use Rattle.cm_state.proofs.EntrySteps.{entries_step}
use Rattle.cm_state.proofs.laws.entries_are_steps.Goals as goal

pub returns : goal.returns
returns c =
    let stay = c.live_rows_go_on.ensures.entries in
    let grow = c.live_rows_go_on.ensures.rows in
    let own = c.loaders_are_own.ensures in
    record {
      classes = entries_step {A = ClassFile} stay grow own;
      words = entries_step {A = List ℕ} stay grow own;
    }
