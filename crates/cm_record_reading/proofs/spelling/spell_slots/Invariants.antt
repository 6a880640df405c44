use Rattle.std.proofs.Common.{◌≡◌, ◌≤◌, ◌-◌, length, false}
use Rattle.std.specs.List.{flat_map}
use Rattle.cm_class.specs.Spelling.{slot_bytes}
use Rattle.cm_record_reading.specs.Reading.{slots_at, behind3}
use Rattle.cm_record_reading.proofs.spelling.spell_slots.Given as goal

abbrev pub invariant-loop : goal.invariant-loop
invariant-loop l = record {
  kept : behind3 l.out.items (flat_map slot_bytes)
      (slots_at l.total l.second (l.count - l.counter) l.main l.runs)
      ≡ behind3 l.fn.out.items (flat_map slot_bytes)
      (slots_at l.total false l.count l.fn.main l.fn.runs);
  suffix : length l.runs ≤ length l.fn.runs;
}
