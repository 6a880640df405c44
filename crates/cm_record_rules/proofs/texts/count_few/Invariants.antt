use Rattle.std.proofs.Common.{◌≡◌, ◌≤◌, ◌+◌, drop}
use Rattle.cm_record_rules.specs.Plain.{count_characters}
use Rattle.cm_record_rules.proofs.texts.count_few.Given as goal

abbrev pub invariant-loop-byte : goal.invariant-loop-byte
invariant-loop-byte l = record {
  few : l.count ≤ l.byte-index;
  so_far : l.count + count_characters (drop l.byte-index l.bytes) ≡ count_characters l.bytes;
}
