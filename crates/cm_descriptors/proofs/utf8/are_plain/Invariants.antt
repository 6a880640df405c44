use Rattle.std.proofs.Common.{◌≡◌, ◌&&◌, drop}
use Rattle.std.specs.List.{list_all}
use Rattle.cm_descriptors.specs.Forms.{is_within}
use Rattle.cm_descriptors.proofs.utf8.are_plain.Given as goal

abbrev pub invariant-loop-byte : goal.invariant-loop-byte
invariant-loop-byte l =
    l.all && list_all (is_within 0x01 0x7F) (drop l.byte-index l.bytes)
    ≡ list_all (is_within 0x01 0x7F) l.bytes
