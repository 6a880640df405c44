use Rattle.std.proofs.Common.{◌≡◌, drop}
use Rattle.cm_class.specs.Spelling.{heading}
use Rattle.cm_class.specs.Reading.{expected_at}
use Rattle.cm_class.proofs.numbers.skip_heading.Given as goal

abbrev pub invariant-loop-expected : goal.invariant-loop-expected
invariant-loop-expected l =
    expected_at (drop l.expected-index heading) l.rest ≡ expected_at heading l.bytes
