use Rattle.std.proofs.Common.{◌≡◌}
use Rattle.cm_import.proofs.preparer.Preparer.add_compared.Given as goal

abbrev pub invariant-loop-class : goal.invariant-loop-class
invariant-loop-class g l = l.self.ready ≡ l.fn.self.ready
