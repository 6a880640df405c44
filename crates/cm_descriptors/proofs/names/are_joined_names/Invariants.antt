use Rattle.std.proofs.Common.{◌≡◌, drop, true}
use Rattle.cm_descriptors.specs.Forms.{is_class_name_from}
use Rattle.cm_descriptors.proofs.names.are_joined_names.Given as goal

abbrev pub invariant-loop-byte : goal.invariant-loop-byte
invariant-loop-byte l =
    is_class_name_from l.begins (drop l.byte-index l.bytes) ≡ is_class_name_from true l.bytes
