use Rattle.std.proofs.Common.{◌≡◌, ◌≤◌, length, drop, false}
use Rattle.std.specs.List.{AllByRecursion}
use Rattle.cm_rows.proofs.live_loader.living_end.Given as goal

abbrev pub invariant-loop-count : goal.invariant-loop-count
invariant-loop-count l =
    record {
      within : l.count ≤ length l.loaders;
      behind : AllByRecursion (λ s. s.live ≡ false) (drop l.count l.loaders);
    }

abbrev pub decreases-loop-count : goal.decreases-loop-count
decreases-loop-count l = l.count
