use Rattle.std.proofs.Common.{◌≡◌, ◌+◌, ◌<◌, ◌^◌, drop, length, map, take}
use Rattle.cm_duplicates.specs.Duplicates.{first_failing, is_first}
use Rattle.cm_record_rules.specs.Marked.{member_mark}
use Rattle.cm_record_rules.proofs.twins.no_twins.Given as goal

abbrev pub invariant-loop-member : goal.invariant-loop-member
invariant-loop-member l = record {
  short : l.place + length l.rest < 2 ^ 16;
  there : drop l.place l.all ≡ l.rest;
  marked : l.marks.items ≡ map (member_mark l.class) (take l.place l.all);
  so_far : first_failing (is_first l.class l.all) l.place l.rest
      ≡ first_failing (is_first l.class l.all) 0 l.all;
}

abbrev pub decreases-loop-member : goal.decreases-loop-member
decreases-loop-member l = length l.rest
