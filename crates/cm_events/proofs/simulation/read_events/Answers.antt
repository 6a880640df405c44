use Rattle.std.proofs.Common.{◌+◌, ◌∙◌, arith}
use Rattle.cm_lines.specs.Lines.{lines_of}
use Rattle.cm_events.proofs.Taking.{takes_more, takes_none, bad_behind}
use Rattle.cm_events.proofs.simulation.read_events.Goals as goal

pub lines-preserved : goal.lines-preserved
lines-preserved c =
    let all = lines_of c.args.text.now in
    let left = lines_of c.lines.rest.now in
    let behind = lines_of c.in-Some.behind.now in
    let line = c.in-Some.line.now in
    let old = c.lines.simulation in
    let new = c.take_line.new.self in
    let takes = c.in-Ok.ensures.taken in
    record {
      geometry = c.in-Ok.ensures.geometry ∙ c.lines.invariant.geometry;
      counted = omega (arith, c.in-Some.ensures.shorter);
      events =
          takes_more all left behind line old new c.in-Some.ensures.some c.lines.invariant.events
          takes;
      bad =
          bad_behind (c.lines.number + 1) left behind line takes.taken c.in-Some.ensures.some
          takes.comes
          ∙ c.lines.invariant.bad;
    }

pub returns-clause-events : goal.returns-clause-events
returns-clause-events c =
    takes_none (lines_of c.args.text.now) (lines_of c.lines.rest.now)
    c.lines.simulation.events.items c.lines.simulation.turns.items c.in_default.ensures.none
    c.lines.invariant.events
