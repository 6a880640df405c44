use Rattle.std.proofs.Common.{◌≡◌, ◌≤◌, ◌*◌, ◌-◌, length, take}
use Rattle.cm_record_layout.specs.Layout.{utf8_runs}
use Rattle.cm_record_rules.specs.Plain.{texts}
use Rattle.cm_record_rules.proofs.texts.are_characters.Given as goal

abbrev pub invariant-loop-index : goal.invariant-loop-index
invariant-loop-index l = record {
  within : l.index ≤ length l.class.slots;
  bytes_are : l.bytes ≡ length (texts (take l.index l.class.slots));
  filled_are : l.filled ≡ 8 * length (utf8_runs (take l.index l.class.slots));
  bytes_few : l.bytes ≤ 65535 * l.index;
  filled_few : l.filled ≤ 65542 * l.index;
}

abbrev pub decreases-loop-index : goal.decreases-loop-index
decreases-loop-index l = l.last - l.index
