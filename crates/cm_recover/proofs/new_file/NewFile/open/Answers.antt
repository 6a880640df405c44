use Rattle.cm_guards.proofs.{run_then_sync, images_synced, contents_are_image}
use Rattle.cm_recover.specs.NewFile.{IsNoneOrEmpty}
use Rattle.cm_recover.proofs.Unfinished.{calls_once, calls_on}
use Rattle.cm_recover.proofs.new_file.NewFile.open.Goals as goal

pub returns-clause-any_moment : goal.returns-clause-any_moment
returns-clause-any_moment g c =
    let gate = c.in_ok-write_gate.ensures in
    run_then_sync g.D.Disk.view
    g.met.D.Disk.only_now c.args.disk.now c.write_gate.new.disk c.sync.new.self
    (IsNoneOrEmpty c.args.self.now.geometry) gate.any_moment gate.images c.sync.ensures.syncs.time

pub returns-clause-images : goal.returns-clause-images
returns-clause-images g c =
    let view = g.D.Disk.view in
    let old = c.write_gate.new.disk in
    let images = c.in_ok-write_gate.ensures.images in
    images_synced view c.sync.result (IsNoneOrEmpty c.args.self.now.geometry) old c.sync.new.self
    c.sync.ensures.syncs
    (images.each (view.contents old) (contents_are_image (view.contents old) (view.unsynced old)
    (g.met.D.Disk.sound old)))
    images

pub returns-in_err-write_gate-clause-calls : goal.returns-in_err-write_gate-clause-calls
returns-in_err-write_gate-clause-calls g c =
    calls_once g.D.Disk.called c.write_gate.result 1 c.args.disk.now c.write_gate.new.disk
    c.write_gate.ensures.called

pub returns-clause-calls : goal.returns-clause-calls
returns-clause-calls g c =
    let called = g.D.Disk.called in
    calls_on called c.write_gate.result _ 1 c.args.disk.now c.write_gate.new.disk c.sync.new.self
    c.in_ok-write_gate.was c.write_gate.ensures.called
    (calls_once called c.sync.result 0 c.write_gate.new.disk c.sync.new.self
    c.sync.ensures.called)
