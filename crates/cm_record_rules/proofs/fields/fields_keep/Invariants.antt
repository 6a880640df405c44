use Rattle.std.proofs.Common.{◌≡◌, length}
use Rattle.std.specs.List.{list_all}
use Rattle.cm_rules.specs.Kept.{field_keeps}
use Rattle.cm_record_rules.proofs.fields.fields_keep.Given as goal

abbrev pub invariant-loop-field : goal.invariant-loop-field
invariant-loop-field l =
    list_all (field_keeps l.class) l.rest ≡ list_all (field_keeps l.class) l.class.fields

abbrev pub decreases-loop-field : goal.decreases-loop-field
decreases-loop-field l = length l.rest
