use Rattle.cm_commit.proofs.Renewals.{half, nothing_left}
use Rattle.cm_commit.proofs.renewal.renew.Goals as goal

pub returns-in_err-buffer-clause-images : goal.returns-in_err-buffer-clause-images
returns-in_err-buffer-clause-images g c =
    nothing_left g.D.Disk.view g.met.D.Disk.only_now c.args.disk.now _ _ c.requires.held

pub renewed-requires : goal.renewed-requires
renewed-requires g c = half _ _ _ _ c.requires.held
