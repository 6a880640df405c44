use Rattle.std.proofs.Common.{◌≡◌, ◌-◌}
use Rattle.cm_record_reading.specs.Reading.{interfaces_from, left1}
use Rattle.cm_record_reading.proofs.checking.skip_interfaces.Given as goal

abbrev pub invariant-loop : goal.invariant-loop
invariant-loop l =
    left1 (interfaces_from (l.count - l.counter) l.rest) ≡ left1 (interfaces_from l.count l.words)
