use Rattle.std.proofs.Common.{◌≡◌, drop}
use Rattle.cm_attributes.specs.Contents.{past_parts}
use Rattle.cm_attributes.proofs.part.skip_parts.Given as goal

abbrev pub invariant-loop-part : goal.invariant-loop-part
invariant-loop-part l =
    past_parts l.class (drop l.part-index l.parts) l.rest ≡ past_parts l.class l.parts l.bytes
