use Rattle.std.proofs.Common.{◌≡◌, length}
use Rattle.std.specs.List.{list_all}
use Rattle.cm_constraints.specs.Attributes.{has_content_of}
use Rattle.cm_record_rules.proofs.contained.have_content_of.Given as goal

abbrev pub invariant-loop-attribute : goal.invariant-loop-attribute
invariant-loop-attribute l =
    list_all (has_content_of l.class l.among) l.rest
    ≡ list_all (has_content_of l.class l.among) l.fn.attributes

abbrev pub decreases-loop-attribute : goal.decreases-loop-attribute
decreases-loop-attribute l = length l.rest
