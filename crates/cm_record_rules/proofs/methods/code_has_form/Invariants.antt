use Rattle.std.proofs.Common.{◌≡◌, length}
use Rattle.std.specs.List.{list_all}
use Rattle.cm_attributes.specs.declared.known.Known.TheVariants as known
use Rattle.cm_attributes.specs.Names.{with_name}
use Rattle.cm_attributes.specs.Contents.{is_content}
use Rattle.cm_record_rules.proofs.methods.code_has_form.Given as goal

abbrev pub invariant-loop-attribute : goal.invariant-loop-attribute
invariant-loop-attribute l =
    list_all (λ a. is_content l.class known.Code a.bytes) (with_name l.class known.Code l.rest)
    ≡ list_all (λ a. is_content l.class known.Code a.bytes)
    (with_name l.class known.Code l.method.attributes)

abbrev pub decreases-loop-attribute : goal.decreases-loop-attribute
decreases-loop-attribute l = length l.rest
