use Rattle.std.proofs.Common.{◌≡◌, drop}
use Rattle.cm_duplicates.specs.Duplicates.{is_first, first_failing, first_duplicate}
use Rattle.cm_duplicates.proofs.SeenMembers.{SeenNumbers}
use Rattle.cm_duplicates.proofs.meeting.first_where_they_meet.Given as goal

abbrev pub invariant-loop-place : goal.invariant-loop-place
invariant-loop-place l = record {
  seen : SeenNumbers l.members l.fingerprints l.repeated l.seen l.place;
  so_far : first_failing (is_first l.class l.members) l.place (drop l.place l.members)
      ≡ first_duplicate l.class l.members;
}
