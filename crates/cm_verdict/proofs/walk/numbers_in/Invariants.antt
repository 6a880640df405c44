use Rattle.std.proofs.Common.{◌≡◌, ◌≤◌}
use Rattle.cm_verdict.specs.Decoding.{numbers_in}
use Rattle.cm_verdict.proofs.walk.numbers_in.Given as goal

-- the count is that of the slots visited so far
abbrev pub invariant-loop-slot : goal.invariant-loop-slot
invariant-loop-slot l = record {
  value : l.numbers ≡ numbers_in l.slot l.slots;
  few : l.numbers ≤ l.slot;
}
