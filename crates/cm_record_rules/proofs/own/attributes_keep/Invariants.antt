use Rattle.std.proofs.Common.{◌≡◌, ◌+◌, ◌<◌, ◌^◌, length}
use Rattle.cm_duplicates.specs.Duplicates.{first_failing}
use Rattle.cm_rules.specs.Kept.{attribute_keeps}
use Rattle.cm_record_rules.proofs.own.attributes_keep.Given as goal

abbrev pub invariant-loop-item : goal.invariant-loop-item
invariant-loop-item l = record {
  short : l.place + length l.rest < 2 ^ 16;
  so_far : first_failing (attribute_keeps l.class) l.place l.rest
      ≡ first_failing (attribute_keeps l.class) 0 l.class.attributes;
}

abbrev pub decreases-loop-item : goal.decreases-loop-item
decreases-loop-item l = length l.rest
