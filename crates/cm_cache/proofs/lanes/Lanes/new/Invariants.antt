use Rattle.std.proofs.Common.{◌≤◌, ◌-◌, vec_len}
use Rattle.cm_cache.proofs.lanes.Lanes.new.Given as goal

abbrev pub invariant-loop-lanes : goal.invariant-loop-lanes
invariant-loop-lanes l = vec_len l.lanes ≤ 64

abbrev pub decreases-loop-lanes : goal.decreases-loop-lanes
decreases-loop-lanes l = 64 - vec_len l.lanes
