use Rattle.std.proofs.Common.{◌≡◌, drop}
use Rattle.std.specs.List.{list_any}
use Rattle.cm_record.specs.Names.{class_name_in}
use Rattle.cm_commit.specs.Joining.{makes_class}
use Rattle.cm_commit.proofs.joining.is_made.Given as goal

abbrev pub invariant-loop-carried : goal.invariant-loop-carried
invariant-loop-carried l =
    list_any (makes_class l.loader (class_name_in l.class)) l.entries
    ≡ list_any (makes_class l.loader (class_name_in l.class)) (drop l.carried-index l.entries)
