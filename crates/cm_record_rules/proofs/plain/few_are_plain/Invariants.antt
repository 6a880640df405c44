use Rattle.std.proofs.Common.{◌≡◌, ◌&&◌, drop}
use Rattle.std.specs.List.{list_all}
use Rattle.cm_record_rules.specs.Plain.{is_plain_byte}
use Rattle.cm_record_rules.proofs.plain.few_are_plain.Given as goal

abbrev pub invariant-loop-byte : goal.invariant-loop-byte
invariant-loop-byte l =
    l.all && list_all is_plain_byte (drop l.byte-index l.bytes) ≡ list_all is_plain_byte l.bytes
