use Rattle.std.proofs.Common.{◌≡◌, ◌<◌, ◌+◌, ℕ, get_or}
use Rattle.cm_record_layout.specs.Packing.{word_bytes}
use Rattle.cm_record_parts.proofs.texts.lies_at.Given as goal

abbrev pub invariant-loop-i : goal.invariant-loop-i
invariant-loop-i l = (k : ℕ) → k < l.i
    → get_or (word_bytes l.words) (l.place.at + k) 0 ≡ get_or l.bytes k 0
