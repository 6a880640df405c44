use Rattle.std.proofs.Common.{◌≡◌, ◌∷◌, ℕ, length}
use Rattle.std.specs.VecDeque.{deque_capacity}
use Rattle.cm_session.specs.Session.{commands_of, AreConsecutive}
use Rattle.cm_session.proofs.joining.join_queued.Given as goal

abbrev pub invariant-loop : goal.invariant-loop
invariant-loop l =
    (commands_of (l.group ∷ l.queue.items) ≡ commands_of (l.fn.group ∷ l.fn.queue.items))
    × ((n : ℕ) → AreConsecutive n (l.fn.group ∷ l.fn.queue.items)
    → AreConsecutive n (l.group ∷ l.queue.items))
    × (deque_capacity l.queue ≡ deque_capacity l.fn.queue)

abbrev pub decreases-loop : goal.decreases-loop
decreases-loop l = length l.queue.items
