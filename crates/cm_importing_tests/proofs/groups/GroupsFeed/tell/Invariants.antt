use Rattle.std.proofs.Common.{◌≡◌}
use Rattle.cm_importing_tests.proofs.groups.GroupsFeed.tell.Given as goal

-- no group is given meanwhile
abbrev pub invariant-loop-outcome : goal.invariant-loop-outcome
invariant-loop-outcome l = l.self.left ≡ l.fn.self.left
