use Rattle.cm_guards.proofs.{gate_leaves}
use Rattle.cm_disk_tests.proofs.turning.write_gate.Goals as goal

pub returns-clause-any_moment : goal.returns-clause-any_moment
returns-clause-any_moment g c =
    gate_leaves g.D.Disk.view
    g.met.D.Disk.only_now c.args.disk.now c.write_at.new.self g.P.Claim.holds g.Q.Claim.holds
    c.args.gate 165 c.requires.turns c.requires.durable c.requires.holds
    c.write_at.ensures.writes.time
