use Rattle.std.proofs.Common.{◌≡◌, drop}
use Rattle.cm_descriptors.specs.Forms.{has_utf8_form_after}
use Rattle.cm_descriptors.proofs.utf8.are_characters.Given as goal

abbrev pub invariant-loop-byte : goal.invariant-loop-byte
invariant-loop-byte l =
    has_utf8_form_after l.owed (drop l.byte-index l.bytes) ≡ has_utf8_form_after 0 l.bytes
