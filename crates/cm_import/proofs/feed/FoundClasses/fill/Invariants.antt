use Rattle.std.proofs.Common.{◌≤◌}
use Rattle.cm_import.specs.Left.{unread_of, left_of}
use Rattle.cm_import.proofs.feed.FoundClasses.fill.Given as goal

abbrev pub invariant-loop-self : goal.invariant-loop-self
invariant-loop-self g l = left_of l.self ≤ left_of l.fn.self

-- each turn reads something
abbrev pub decreases-loop-self : goal.decreases-loop-self
decreases-loop-self g l = unread_of l.self
