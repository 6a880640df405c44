use Rattle.std.proofs.Common.{◌+◌, ◌++◌, drop, sym, ap, ◌∙◌, arith, append-nil}
use Rattle.std.proofs.lemmas.List.{drop_more, drop_all}
use Rattle.cm_events.specs.declared.simulation.Turn.TheVariants as turn
use Rattle.cm_events.specs.Texts.{answers, answers_behind}
use Rattle.cm_events.proofs.text.answer_lines.Goals as goal

pub loop-turn-preserved : goal.loop-turn-preserved
loop-turn-preserved c =
    let turns = c.args.turns.now in
    let i = c.loop-turn.turn-index in
    ap (λ b. c.push_turn.new.text.items ++ answers_behind (drop (i + 1) turns) b)
    (sym c.in-Some.is)
    ∙ sym (c.in_ok-behind.ensures {u = tt} (drop (i + 1) turns))
    ∙ ap (λ l. c.loop-turn.text.items ++ answers l c.loop-turn.rest.now)
    (sym (drop_more turns i turn.Runs (omega arith)))
    ∙ c.loop-turn.invariant

pub returns-in-None : goal.returns-in-None
returns-in-None c =
    let turns = c.args.turns.now in
    let i = c.loop-turn.turn-index in
    sym (append-nil c.push_turn.new.text.items)
    ∙ ap (λ b. c.push_turn.new.text.items ++ answers_behind (drop (i + 1) turns) b)
    (sym c.in-None.is)
    ∙ sym (c.in_ok-behind.ensures {u = tt} (drop (i + 1) turns))
    ∙ ap (λ l. c.loop-turn.text.items ++ answers l c.loop-turn.rest.now)
    (sym (drop_more turns i turn.Runs (omega arith)))
    ∙ c.loop-turn.invariant

pub returns : goal.returns
returns c =
    let turns = c.args.turns.now in
    sym (append-nil c.loop-turn.text.items)
    ∙ ap (λ l. c.loop-turn.text.items ++ answers l c.loop-turn.rest.now)
    (sym (drop_all c.loop-turn.turn-index turns (omega arith)))
    ∙ c.loop-turn.invariant
