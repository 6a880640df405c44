use Rattle.std.proofs.Common.{◌≡◌, ◌-◌, take}
use Rattle.std.specs.List.{list_any}
use Rattle.cm_duplicates.specs.Duplicates.{same_member}
use Rattle.cm_record_rules.proofs.twins.is_first.Given as goal

abbrev pub invariant-loop : goal.invariant-loop
invariant-loop l =
    list_any (same_member l.class l.member) (take (l.place - l.counter) l.rest)
    ≡ list_any (same_member l.class l.member) (take l.place l.all)
