use Rattle.std.proofs.Common.{◌≡◌, ◌<◌, ◌*◌, ℕ, get_or, drop}
use Rattle.cm_record_layout.specs.Packing.{word_from}
use Rattle.cm_record.proofs.order.same_as_bytes.Given as goal

abbrev pub invariant-loop-at : goal.invariant-loop-at
invariant-loop-at l = (k : ℕ) → k < l.at → get_or l.words k 0 ≡ word_from (drop (8 * k) l.bytes)
