use Rattle.std.proofs.Common.{◌≡◌, ◌≤◌, ◌-◌, ◌%◌, if◌then◌else◌}
use Rattle.std.specs.Prelude.{not, ◌==◌}
use Rattle.cm_record.specs.Constants.{is_second_word as is_second_word_of}
use Rattle.cm_record_parts.proofs.constants.is_second_word.Given as goal

abbrev pub decreases-loop-before : goal.decreases-loop-before
decreases-loop-before l = l.before

abbrev pub invariant-loop-before : goal.invariant-loop-before
invariant-loop-before l =
    (l.before ≤ l.place)
    × (is_second_word_of l.words l.place
    ≡ (if (l.place - l.before) % 2 == 1 then not (is_second_word_of l.words l.before)
    else is_second_word_of l.words l.before))
