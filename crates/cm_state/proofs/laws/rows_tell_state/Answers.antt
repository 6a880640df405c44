use Rattle.std.specs.Prelude.{ℕ, List}
use Rattle.cm_class.specs.declared.class_file.ClassFile.{ClassFile}
use Rattle.cm_state.proofs.RowStates.{is_loader_found, class_in_rows}
use Rattle.cm_state.proofs.EntrySteps.{sizes_agree}
use Rattle.cm_state.proofs.laws.rows_tell_state.Goals as goal

pub returns : goal.returns
returns c = record {
  loaders = (is_loader_found {A = ClassFile}, is_loader_found {A = List ℕ});
  classes = (class_in_rows {A = ClassFile}, class_in_rows {A = List ℕ});
  sizes =
      let grow = c.live_rows_go_on.ensures.rows in
      let own = c.loaders_are_own.ensures in
      (sizes_agree {A = ClassFile} grow own, sizes_agree {A = List ℕ} grow own);
}
