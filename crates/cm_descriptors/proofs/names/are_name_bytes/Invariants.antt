use Rattle.std.proofs.Common.{◌≡◌, ◌&&◌, drop}
use Rattle.std.specs.List.{list_all}
use Rattle.cm_descriptors.specs.Forms.{is_name_byte}
use Rattle.cm_descriptors.proofs.names.are_name_bytes.Given as goal

abbrev pub invariant-loop-byte : goal.invariant-loop-byte
invariant-loop-byte l =
    l.all && list_all is_name_byte (drop l.byte-index l.bytes) ≡ list_all is_name_byte l.bytes
