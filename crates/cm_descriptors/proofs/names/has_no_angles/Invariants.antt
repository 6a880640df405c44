use Rattle.std.proofs.Common.{◌≡◌, ◌&&◌, ◌==◌, not, drop}
use Rattle.std.specs.List.{list_all}
use Rattle.cm_descriptors.specs.Forms.{less, greater}
use Rattle.cm_descriptors.proofs.names.has_no_angles.Given as goal

abbrev pub invariant-loop-byte : goal.invariant-loop-byte
invariant-loop-byte l =
    l.all && list_all (λ b. not (b == less) && not (b == greater)) (drop l.byte-index l.bytes)
    ≡ list_all (λ b. not (b == less) && not (b == greater)) l.bytes
