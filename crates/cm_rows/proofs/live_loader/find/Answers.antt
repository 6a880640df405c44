use Rattle.cm_rows.proofs.KeptPlaces.{absent-living, absent-dead, dead-any}
use Rattle.cm_rows.proofs.live_loader.find.Goals as goal

pub returns-in_err-at-clause-absent : goal.returns-in_err-at-clause-absent
returns-in_err-at-clause-absent c =
    rw c.from_residual.ensures
    (absent-living c.args.loaders.now c.args.number c.in_err-at.ensures.absent)

pub returns-else-loaders-at-clause-absent : goal.returns-else-loaders-at-clause-absent
returns-else-loaders-at-clause-absent c =
    let found = c.in_ok-at.ensures.found in
    absent-dead c.args.loaders.now c.args.number c.in_ok-at.at c.requires found
    (dead-any c.args.loaders.now c.args.number c.in_ok-at.at _ found c.if-loaders-at.false)
