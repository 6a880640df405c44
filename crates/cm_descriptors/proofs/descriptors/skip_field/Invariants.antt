use Rattle.std.proofs.Common.{◌≡◌, ◌-◌}
use Rattle.cm_descriptors.specs.Forms.{after_field}
use Rattle.cm_descriptors.proofs.descriptors.skip_field.Given as goal

abbrev pub invariant-loop : goal.invariant-loop
invariant-loop l = after_field (255 - l.counter) l.rest ≡ after_field 255 l.bytes
