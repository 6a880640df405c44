use Rattle.std.proofs.Common.{◌≡◌, length}
use Rattle.std.specs.List.{list_all}
use Rattle.cm_rules.specs.Kept.{method_keeps}
use Rattle.cm_record_rules.proofs.methods.methods_keep.Given as goal

abbrev pub invariant-loop-method : goal.invariant-loop-method
invariant-loop-method l =
    list_all (method_keeps l.class) l.rest ≡ list_all (method_keeps l.class) l.class.methods

abbrev pub decreases-loop-method : goal.decreases-loop-method
decreases-loop-method l = length l.rest
