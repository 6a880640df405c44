use Rattle.std.proofs.Common.{◌++◌, ap, ◌∙◌}
use Rattle.cm_cache.proofs.Shown.{all_shown}
use Rattle.cm_cache.proofs.tally.Tally.take.Goals as goal

pub returns-clause-changes : goal.returns-clause-changes
returns-clause-changes g c =
    all_shown _ _ _ c.args.pass.changes c.into_parts-share.ensures.shown c.hear.ensures.known

pub returns-clause-settled : goal.returns-clause-settled
returns-clause-settled g c =
    c.hear.ensures.taken
    ∙ ap (λ l. record {
      sent = c.args.settled.now.sent;
      owned = c.args.settled.now.owned ++ l;
    })
    c.into_parts-share.ensures.owned
