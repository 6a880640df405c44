use Rattle.std.proofs.Common.{◌≡◌, ◌+◌, length, drop}
use Rattle.cm_commit.specs.GroupPlans.{all_writes}
use Rattle.cm_commit.proofs.entries.all_writes.Given as goal

abbrev pub invariant-loop-carried : goal.invariant-loop-carried
invariant-loop-carried l =
    l.count + length (all_writes (drop l.carried-index l.entries)) ≡ length (all_writes l.entries)
