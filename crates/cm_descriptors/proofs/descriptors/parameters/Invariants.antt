use Rattle.std.proofs.Common.{◌≡◌, ◌≤◌, ◌*◌, ◌-◌, length}
use Rattle.cm_descriptors.specs.Forms.{parameters}
use Rattle.cm_descriptors.proofs.FormLoops.{with_units}
use Rattle.cm_descriptors.proofs.descriptors.parameters.Given as goal

abbrev pub invariant-loop : goal.invariant-loop
invariant-loop l = record {
  small : l.units ≤ 2 * l.counter;
  read : with_units l.units (parameters (length l.bytes - l.counter) l.rest)
      ≡ parameters (length l.bytes) l.bytes;
}
