use Rattle.std.proofs.Common.{ap, ◌∙◌}
use Rattle.cm_events.specs.Texts.{answers}
use Rattle.cm_events.proofs.running.simulate.Goals as goal

pub returns-in-Ok-answer_lines-clause-done : goal.returns-in-Ok-answer_lines-clause-done
returns-in-Ok-answer_lines-clause-done c =
    let turns = c.in-Ok.simulation.turns.items in
    record {
      simulation = c.in-Ok.simulation;
      read = c.in-Ok.ensures.read;
      replies = c.in-Ok-run.ran.0.items;
      world = c.in-Ok-run.ran.1;
      ran = c.in-Ok-run.ensures.ran;
      written_is =
          c.in-Ok-answer_lines.ensures ∙ ap (λ these. answers these c.deref-2.result.now)
          c.deref.ensures.value ∙ ap (answers turns) c.deref-2.ensures.value;
      disk_is = c.into_disk-disk.ensures;
    }
