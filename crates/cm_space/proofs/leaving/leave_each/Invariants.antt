use Rattle.std.proofs.Common.{◌+◌, ◌≤◌, length, drop}
use Rattle.std.specs.VecDeque.{deque_len, deque_capacity}
use Rattle.cm_space.proofs.InTurn.{AreLeaving}
use Rattle.cm_space.proofs.leaving.leave_each.Given as goal

abbrev pub invariant-loop-loader : goal.invariant-loop-loader
invariant-loop-loader l =
    record {
      leaving : AreLeaving l.fn.arenas.entries l.fn.waiting.items l.number l.loaders
          l.arenas.entries l.waiting.items (drop l.loader-index l.loaders);
      room : deque_len l.waiting + length l.loaders
          ≤ deque_capacity l.waiting + l.loader-index;
    }
