use Rattle.std.proofs.Common.{◌-◌, ◌≤◌, length, take, drop}
use Rattle.std.specs.List.{AllByRecursion}
use Rattle.cm_index.specs.Index.{keys_at}
use Rattle.cm_index.specs.Sought.{key_sought}
use Rattle.cm_index.specs.Index.{Below, Above}
use Rattle.cm_index.proofs.search.place_in.Given as goal

abbrev pub invariant-loop-low : goal.invariant-loop-low
invariant-loop-low g l =
    record {
      order : l.low ≤ l.high;
      within : l.high ≤ length l.index;
      below : AllByRecursion (Below (key_sought g.P.Kept.name l.sought))
          (take l.low (keys_at g.P.Kept.name l.slots l.index));
      above : AllByRecursion (Above (key_sought g.P.Kept.name l.sought))
          (drop l.high (keys_at g.P.Kept.name l.slots l.index));
    }

abbrev pub decreases-loop-low : goal.decreases-loop-low
decreases-loop-low g l = l.high - l.low
