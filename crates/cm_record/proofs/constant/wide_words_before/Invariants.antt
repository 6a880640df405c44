use Rattle.std.proofs.Common.{◌≡◌, ◌≤◌, ◌-◌, ◌%◌, length, if◌then◌else◌}
use Rattle.std.specs.Prelude.{not, ◌==◌}
use Rattle.cm_record.specs.Constants.{is_second_word}
use Rattle.cm_record.proofs.constant.wide_words_before.Given as goal

abbrev pub decreases-loop-before : goal.decreases-loop-before
decreases-loop-before l = l.before

abbrev pub invariant-loop-before : goal.invariant-loop-before
invariant-loop-before l =
    (l.before ≤ l.place) × (l.place ≤ length l.words)
    × (is_second_word l.words l.place
    ≡ (if (l.place - l.before) % 2 == 1 then not (is_second_word l.words l.before)
    else is_second_word l.words l.before))
