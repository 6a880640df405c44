use Rattle.cm_state.specs.State.{class_shows}
use Rattle.cm_state.proofs.Folds.{fold_both, fold_number}
use Rattle.cm_state.proofs.laws.changes_go_on.Goals as goal

pub returns : goal.returns
returns c = record { behind = fold_both class_shows; numbers = fold_number class_shows }
