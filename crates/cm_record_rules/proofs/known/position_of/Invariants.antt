use Rattle.std.proofs.Common.{◌≡◌, ◌+◌, ◌<◌, ◌^◌, length}
use Rattle.std.specs.Prelude.{position}
use Rattle.std.specs.List.{position_from}
use Rattle.cm_attributes.specs.Names.{is_known}
use Rattle.cm_record_rules.proofs.known.position_of.Given as goal

abbrev pub invariant-loop-attribute : goal.invariant-loop-attribute
invariant-loop-attribute l = record {
  short : l.place + length l.rest < 2 ^ 16;
  so_far : position_from (is_known l.class l.known) l.place l.rest
      ≡ position (is_known l.class l.known) l.class.attributes;
}

abbrev pub decreases-loop-attribute : goal.decreases-loop-attribute
decreases-loop-attribute l = length l.rest
