use Rattle.std.proofs.Common.{◌≡◌, ◌≤◌, take, map, None, vec_capacity}
use Rattle.cm_rows.proofs.links.no_places.Given as goal

abbrev pub invariant-loop-loader : goal.invariant-loop-loader
invariant-loop-loader l =
    record {
      items : l.newest.items ≡ map (λ l. None) (take l.loader-index l.loaders);
      capacity : vec_capacity l.fn.newest ≤ vec_capacity l.newest;
    }
