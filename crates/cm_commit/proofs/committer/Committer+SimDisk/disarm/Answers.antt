use Rattle.cm_commit.proofs.committer.Committer+SimDisk.disarm.Goals as goal

pub invariant_of-self : goal.invariant_of-self
invariant_of-self c =
    let i = c.self.invariant in
    rw c.disarm.ensures (record { is = i.is; beside = i.beside; at = i.at })
