use Rattle.std.proofs.Common.{◌≡◌, ◌≤◌, ◌-◌, length}
use Rattle.cm_record_reading.specs.Reading.{members_from, left3}
use Rattle.cm_record_reading.proofs.checking.skip_members.Given as goal

abbrev pub invariant-loop : goal.invariant-loop
invariant-loop l = record {
  kept : left3 (members_from l.total (l.count - l.counter) l.main l.attributes l.runs)
      ≡ left3 (members_from l.total l.count l.fn.main l.fn.attributes l.fn.runs);
  suffix : length l.attributes ≤ length l.fn.attributes;
  runs_suffix : length l.runs ≤ length l.fn.runs;
}
