use Rattle.std.proofs.Common.{◌≡◌, drop}
use Rattle.std.specs.Prelude.{max}
use Rattle.cm_group.specs.Groups.{entries_in}
use Rattle.cm_commit.specs.GroupPlans.{roots_of_entries}
use Rattle.cm_commit.proofs.entries.roots_needed.Given as goal

abbrev pub invariant-loop-carried : goal.invariant-loop-carried
invariant-loop-carried l =
    max l.needed (roots_of_entries (entries_in (drop l.carried-index l.entries)))
    ≡ roots_of_entries (entries_in l.entries)
