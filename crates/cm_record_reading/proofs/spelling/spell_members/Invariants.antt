use Rattle.std.proofs.Common.{◌≡◌, ◌≤◌, ◌-◌, length}
use Rattle.std.specs.List.{flat_map}
use Rattle.cm_class.specs.Spelling.{member_bytes, counted}
use Rattle.cm_record_reading.specs.Reading.{members_from, behind4}
use Rattle.cm_record_reading.proofs.spelling.spell_members.Given as goal

abbrev pub invariant-loop : goal.invariant-loop
invariant-loop l = record {
  kept : behind4 l.out.items (flat_map member_bytes)
      (members_from l.total (l.count - l.counter) l.main l.attributes l.runs)
      ≡ behind4 l.fn.out.items (counted member_bytes)
      (members_from l.total l.count l.fn.main l.fn.attributes l.fn.runs);
  suffix : length l.attributes ≤ length l.fn.attributes;
  runs_suffix : length l.runs ≤ length l.fn.runs;
}
