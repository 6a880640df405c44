use Rattle.std.proofs.Common.{◌≡◌, ◌++◌, drop}
use Rattle.cm_events.specs.Texts.{answers}
use Rattle.cm_events.proofs.text.answer_lines.Given as goal

-- the lines so far and those of the turns that are left are all lines
abbrev pub invariant-loop-turn : goal.invariant-loop-turn
invariant-loop-turn l =
    l.text.items ++ answers (drop l.turn-index l.turns) l.rest ≡ answers l.turns l.fn.replies
