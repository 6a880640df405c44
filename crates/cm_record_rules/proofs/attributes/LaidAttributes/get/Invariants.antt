use Rattle.std.proofs.Common.{◌≡◌, slice_get}
use Rattle.cm_record_rules.proofs.attributes.LaidAttributes.get.Given as goal

abbrev pub invariant-loop-left : goal.invariant-loop-left
invariant-loop-left l = slice_get l.rest l.left ≡ slice_get l.fn.self l.place

abbrev pub decreases-loop-left : goal.decreases-loop-left
decreases-loop-left l = l.left
