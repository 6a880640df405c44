use Rattle.std.proofs.Common.{◌<◌, length, arith}
use Rattle.std.proofs.lemmas.Grind.{common_steps}
use Rattle.cm_lines.proofs.{lines_cut, lines_last}
use Rattle.cm_events.proofs.lines.next_line.Goals as goal

pub returns-in-Some-clause-some : goal.returns-in-Some-clause-some
returns-in-Some-clause-some c =
    lines_cut c.args.text.now c.in-Some.line.now c.in-Some.rest.now c.in-Some.ensures.found
    c.in-Some.ensures.first

pub returns-in-None-clause-some : goal.returns-in-None-clause-some
returns-in-None-clause-some c =
    let some : 0 < length c.args.text.now = grind (arith, common_steps) in
    lines_last c.args.text.now some c.in-None.ensures.none
