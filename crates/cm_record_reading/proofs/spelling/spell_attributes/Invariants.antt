use Rattle.std.proofs.Common.{◌≡◌, ◌≤◌, ◌-◌, length}
use Rattle.std.specs.List.{flat_map}
use Rattle.cm_class.specs.Spelling.{attribute_bytes, counted}
use Rattle.cm_record_reading.specs.Reading.{attributes_from, behind3}
use Rattle.cm_record_reading.proofs.spelling.spell_attributes.Given as goal

abbrev pub invariant-loop : goal.invariant-loop
invariant-loop l = record {
  kept : behind3 l.out.items (flat_map attribute_bytes)
      (attributes_from l.total (l.count - l.counter) l.attributes l.runs)
      ≡ behind3 l.fn.out.items (counted attribute_bytes)
      (attributes_from l.total l.count l.fn.attributes l.fn.runs);
  suffix : length l.attributes ≤ length l.fn.attributes;
  runs_suffix : length l.runs ≤ length l.fn.runs;
}
