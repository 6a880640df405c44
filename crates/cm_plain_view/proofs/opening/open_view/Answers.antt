use Rattle.cm_plain_view.proofs.opening.open_view.Goals as goal

pub returns-then-write_view-clause-opened : goal.returns-then-write_view-clause-opened
returns-then-write_view-clause-opened c =
    let written = c.if-write_view.ensures in
    record {
      plain = record {
        view = c.in-Ok.view;
        of = c.in-Ok.ensures.opened;
        rows_are = written.1;
        loaders_are = written.2;
      };
      counted = written.0;
    }
