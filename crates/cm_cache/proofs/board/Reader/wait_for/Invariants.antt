use Rattle.std.proofs.Common.{◌≡◌, ◌≤◌, true}
use Rattle.cm_cache.specs.Board.{HasLoadedSince}
use Rattle.cm_cache.proofs.board.Reader.wait_for.Given as goal

abbrev pub invariant-loop : goal.invariant-loop
invariant-loop g l =
    (l.initial.self.seen.receipt.number ≤ l.self.seen.receipt.number)
    × (l.initial.self.seen.broken ≡ true → l.self.seen.broken ≡ true)
    × HasLoadedSince l.initial.self.loads l.self.loads
