use Rattle.std.proofs.Common.{◌≡◌, ◌-◌}
use Rattle.std.specs.List.{flat_map}
use Rattle.cm_class.specs.Spelling.{u2, counted}
use Rattle.cm_record_reading.specs.Reading.{interfaces_from, appended}
use Rattle.cm_record_reading.proofs.spelling.spell_interfaces.Given as goal

abbrev pub invariant-loop : goal.invariant-loop
invariant-loop l =
    appended l.out.items (flat_map u2) (interfaces_from (l.count - l.counter) l.rest)
    ≡ appended l.fn.out.items (counted u2) (interfaces_from l.count l.words)
