use Rattle.cm_import.specs.Left.{left_of}
use Rattle.cm_import.proofs.feed.FoundClasses.compare_all.Given as goal

-- each turn gives classes
abbrev pub decreases-loop : goal.decreases-loop
decreases-loop g l = left_of l.self
