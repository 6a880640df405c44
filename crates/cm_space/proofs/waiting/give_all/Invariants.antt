use Rattle.std.proofs.Common.{◌≡◌, drop}
use Rattle.cm_pool.specs.Held.{AreHeld}
use Rattle.cm_space.specs.Space.{with_chunks}
use Rattle.cm_space.proofs.waiting.give_all.Given as goal

abbrev pub invariant-loop-chunk : goal.invariant-loop-chunk
invariant-loop-chunk l =
    record {
      held : AreHeld l.pool (drop l.chunk-index l.chunks);
      sofar : with_chunks l.pool (drop l.chunk-index l.chunks)
          ≡ with_chunks l.initial.pool l.chunks;
    }
