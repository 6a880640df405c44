use Rattle.std.proofs.Common.{◌≡◌, length}
use Rattle.cm_constraints.specs.Attributes.{are_values_of}
use Rattle.cm_record_rules.proofs.contained.are_values_of.Given as goal

abbrev pub invariant-loop-attribute : goal.invariant-loop-attribute
invariant-loop-attribute l =
    are_values_of l.class l.descriptor l.rest ≡ are_values_of l.class l.descriptor l.fn.attributes

abbrev pub decreases-loop-attribute : goal.decreases-loop-attribute
decreases-loop-attribute l = length l.rest
