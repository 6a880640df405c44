use Rattle.std.proofs.Common.{◌∙◌, ap, length, arith}
use Rattle.cm_recover.proofs.Empty.{length-shut}
use Rattle.cm_recover.proofs.Unfinished.{calls_once, calls_on}
use Rattle.cm_recover.proofs.Unfinished.{unfinished_written, unfinished_synced}
use Rattle.cm_recover.proofs.new_file.NewFile.store.Goals as goal

pub write_at-requires-clause-within_limit : goal.write_at-requires-clause-within_limit
write_at-requires-clause-within_limit g c =
    let new = c.requires.new in
    omega (
      arith,
      ap length c.deref.ensures.value,
      ap length new.bytes,
      length-shut c.args.self.now.geometry new.lawful,
      new.lawful.slots_to,
    )

pub returns-in_err-write_at-clause-any_moment : goal.returns-in_err-write_at-clause-any_moment
returns-in_err-write_at-clause-any_moment g c =
    let disk = g.D.Disk in
    let new = c.requires.new in
    unfinished_written disk.view
    g.met.D.Disk.only_now c.args.self.now.geometry c.args.disk.now c.write_at.new.self
    (length c.deref.result.now)
    (ap length c.deref.ensures.value ∙ (ap length new.bytes
    ∙ length-shut c.args.self.now.geometry new.lawful))
    c.write_at.ensures.writes.time

pub returns-in_err-write_at-clause-calls : goal.returns-in_err-write_at-clause-calls
returns-in_err-write_at-clause-calls g c =
    calls_once g.D.Disk.called c.write_at.result 1 c.args.disk.now c.write_at.new.self
    c.write_at.ensures.called

pub returns-clause-any_moment : goal.returns-clause-any_moment
returns-clause-any_moment g c =
    let disk = g.D.Disk in
    let new = c.requires.new in
    unfinished_synced disk.view
    g.met.D.Disk.only_now c.args.self.now.geometry c.args.disk.now c.write_at.new.self
    c.sync.new.self (length c.deref.result.now)
    (ap length c.deref.ensures.value ∙ (ap length new.bytes
    ∙ length-shut c.args.self.now.geometry new.lawful))
    c.write_at.ensures.writes.opens c.write_at.ensures.writes.time c.sync.ensures.syncs.time

pub returns-clause-calls : goal.returns-clause-calls
returns-clause-calls g c =
    let called = g.D.Disk.called in
    calls_on called c.write_at.result _ 1 c.args.disk.now c.write_at.new.self c.sync.new.self
    c.in_ok-write_at.was c.write_at.ensures.called
    (calls_once called c.sync.result 0 c.write_at.new.self c.sync.new.self c.sync.ensures.called)
