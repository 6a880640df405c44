use Rattle.std.proofs.Common.{◌≤◌, ◌+◌, length}
use Rattle.cm_import.specs.Left.{left_of}
use Rattle.cm_import.proofs.feed.FoundClassesFeed.next.Given as goal

-- each class that is given is one less
abbrev pub invariant-loop : goal.invariant-loop
invariant-loop g l = length l.classes.items + left_of l.self ≤ left_of l.fn.self
