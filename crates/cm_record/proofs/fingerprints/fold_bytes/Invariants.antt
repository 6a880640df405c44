use Rattle.std.proofs.Common.{◌≡◌, length}
use Rattle.cm_record_layout.specs.Packing.{packed}
use Rattle.cm_record.specs.Fingerprints.{folded}
use Rattle.cm_record.proofs.fingerprints.fold_bytes.Given as goal

-- the bytes that are left lead to the result
abbrev pub invariant-loop-left : goal.invariant-loop-left
invariant-loop-left l = folded l.number (packed l.left) ≡ folded l.from (packed l.bytes)

abbrev pub decreases-loop-left : goal.decreases-loop-left
decreases-loop-left l = length l.left
