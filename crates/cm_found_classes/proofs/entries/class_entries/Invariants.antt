use Rattle.std.proofs.Common.{◌≡◌, take}
use Rattle.std.specs.List.{filter}
use Rattle.cm_found_classes.specs.Names.{is_class_name}
use Rattle.cm_found_classes.proofs.entries.class_entries.Given as goal

-- the first entries were looked at
abbrev pub invariant-loop-entry : goal.invariant-loop-entry
invariant-loop-entry l =
    l.entries.items
    ≡ filter (λ e. is_class_name e.name.now) (take l.entry-index l.jar.entries.items)
