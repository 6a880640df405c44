use Rattle.std.proofs.Common.{◌≡◌, ◌-◌}
use Rattle.cm_class.specs.Reading.{many_at, attribute_at, rest_of}
use Rattle.cm_class.proofs.attributes.skip_attributes.Given as goal

abbrev pub invariant-loop : goal.invariant-loop
invariant-loop l =
    rest_of (many_at attribute_at (l.count - l.counter) l.rest)
    ≡ rest_of (many_at attribute_at l.count l.bytes)
