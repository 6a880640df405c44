use Rattle.std.proofs.Common.{◌≡◌, ◌++◌, take}
use Rattle.std.specs.List.{flat_map}
use Rattle.cm_maintenance.specs.Texts.{listed_line}
use Rattle.cm_maintenance.proofs.texts.push_classes.Given as goal

abbrev pub invariant-loop-class : goal.invariant-loop-class
invariant-loop-class l =
    l.lines.items ≡ l.fn.lines.items ++ flat_map listed_line (take l.class-index l.classes)
