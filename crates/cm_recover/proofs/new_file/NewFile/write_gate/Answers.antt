use Rattle.std.proofs.Common.{ap, length, arith}
use Rattle.cm_guards.proofs.{gate_images, gate_leaves}
use Rattle.cm_recover.specs.NewFile.{IsNoCache, IsEmptyCache}
use Rattle.cm_recover.proofs.Empty.{length-shut}
use Rattle.cm_recover.proofs.Gate.{turns_here, none_here, gate_done}
use Rattle.cm_recover.proofs.new_file.NewFile.write_gate.Goals as goal

pub write_at-requires-clause-starts_within : goal.write_at-requires-clause-starts_within
write_at-requires-clause-starts_within g c =
    omega (
      arith,
      ap length c.requires.shut,
      length-shut c.args.self.now.geometry c.requires.lawful,
      c.requires.lawful.slots_from,
    )

pub returns-clause-written : goal.returns-clause-written
returns-clause-written g c =
    gate_done c.write_at.result c.args.self.now.geometry c.requires.lawful
    (g.D.Disk.view.contents c.args.disk.now) (g.D.Disk.view.contents c.write_at.new.self)
    c.requires.shut
    c.write_at.ensures.writes.written

pub returns-clause-images : goal.returns-clause-images
returns-clause-images g c =
    let sizes = c.args.self.now.geometry in
    let old = g.D.Disk.view.contents c.args.disk.now in
    gate_images g.D.Disk.view c.write_at.result IsNoCache (IsEmptyCache sizes) 4095 165
    c.args.disk.now c.write_at.new.self c.write_at.ensures.writes
    (turns_here sizes c.requires.lawful old c.requires.shut) c.requires.durable

pub returns-clause-any_moment : goal.returns-clause-any_moment
returns-clause-any_moment g c =
    let sizes = c.args.self.now.geometry in
    let old = g.D.Disk.view.contents c.args.disk.now in
    gate_leaves g.D.Disk.view
    g.met.D.Disk.only_now c.args.disk.now c.write_at.new.self IsNoCache (IsEmptyCache sizes) 4095
    165 (turns_here sizes c.requires.lawful old c.requires.shut) c.requires.durable
    (none_here sizes c.requires.lawful old c.requires.shut) c.write_at.ensures.writes.time
