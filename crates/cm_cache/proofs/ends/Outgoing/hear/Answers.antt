use Rattle.std.proofs.Common.{◌++◌, sym, ap}
use Rattle.std.specs.Prelude.{Option}
use Rattle.cm_cache.specs.Channel.{WitnessState, shown_by}
use Rattle.cm_cache.proofs.ends.Outgoing.hear.Goals as goal

pub returns-in-None-clause-known : goal.returns-in-None-clause-known
returns-in-None-clause-known g c = (
  c.args.self.now.sent,
  ap (λ (w : Option WitnessState). shown_by w ++ c.args.self.now.sent) (sym c.in-None.is),
)
