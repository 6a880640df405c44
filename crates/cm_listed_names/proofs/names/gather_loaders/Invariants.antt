use Rattle.std.proofs.Common.{◌≡◌, ◌++◌, length}
use Rattle.cm_listed_names.specs.Names.{loader_names_in, texts}
use Rattle.cm_listed_names.proofs.names.gather_loaders.Given as goal

abbrev pub invariant-loop-row : goal.invariant-loop-row
invariant-loop-row l = texts l.names.items ++ loader_names_in l.left ≡ loader_names_in l.rows.rows

abbrev pub decreases-loop-row : goal.decreases-loop-row
decreases-loop-row l = length l.left
