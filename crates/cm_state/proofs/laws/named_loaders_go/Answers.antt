use Rattle.std.specs.Prelude.{ℕ, List}
use Rattle.cm_class.specs.declared.class_file.ClassFile.{ClassFile}
use Rattle.cm_state.proofs.Gone.{loaders_go, rows_go}
use Rattle.cm_state.proofs.laws.named_loaders_go.Goals as goal

pub returns : goal.returns
returns c = record {
  loaders = (loaders_go {A = ClassFile}, loaders_go {A = List ℕ});
  rows = (rows_go {A = ClassFile}, rows_go {A = List ℕ});
}
