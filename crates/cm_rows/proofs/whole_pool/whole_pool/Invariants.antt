use Rattle.std.proofs.Common.{◌≡◌, []}
use Rattle.cm_pool.specs.Held.{NoneIsLost}
use Rattle.cm_rows.proofs.whole_pool.whole_pool.Given as goal

abbrev pub invariant-loop-root : goal.invariant-loop-root
invariant-loop-root l =
    record {
      geometry : l.pool.geometry ≡ l.fn.geometry;
      roots : l.pool.roots ≡ l._root;
      none_lost : NoneIsLost l.pool [];
    }
