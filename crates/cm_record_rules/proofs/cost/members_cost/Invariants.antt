use Rattle.std.proofs.Common.{length}
use Rattle.cm_record_rules.proofs.cost.members_cost.Given as goal

abbrev pub decreases-loop-member : goal.decreases-loop-member
decreases-loop-member l = length l.rest
