use Rattle.cm_handover.proofs.Causes.{Known}
use Rattle.cm_handover.proofs.Fronts.{accepted_is_made, refused_is_refused, found_is_there}
use Rattle.cm_handover.proofs.laws.commands_follow_the_machine.Goals as goal

pub returns : goal.returns
returns c =
    let known : Known = record {
      tell = c.words_tell_name.ensures;
      loaders = c.rows_tell_state.ensures.loaders.0;
      word_loaders = c.rows_tell_state.ensures.loaders.1;
      classes = c.rows_tell_state.ensures.classes.0;
      word_classes = c.rows_tell_state.ensures.classes.1;
      sizes = c.rows_tell_state.ensures.sizes.0;
      word_sizes = c.rows_tell_state.ensures.sizes.1;
    } in
    let steps = c.entries_are_steps.ensures.classes in
    let on = c.changes_go_on.ensures.behind in
    record {
      accepted = accepted_is_made known steps on;
      refused = refused_is_refused known steps on;
      found = found_is_there known steps on;
    }
