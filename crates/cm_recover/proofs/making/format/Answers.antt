use Rattle.std.proofs.Common.{◌∙◌, ap, subst, sym, rules, refl}
use Rattle.std.specs.Prelude.{Ok}
use Rattle.cm_guards.proofs.{durable_images}
use Rattle.cm_recover.specs.NewFile.{new_bytes, IsEmptyCache}
use Rattle.cm_recover.proofs.Empty.{new_is_empty}
use Rattle.cm_recover.proofs.Unfinished.{calls_on, ends_asked, ends_unstored, passes_shut}
use Rattle.cm_recover.proofs.making.format.Goals as goal

pub returns-clause-empty : goal.returns-clause-empty
returns-clause-empty g c =
    let file = c.in_ok-file.ensures in
    let bytes = c.in_ok-open.ensures.written ∙ ap new_bytes file.geometry in
    durable_images (IsEmptyCache c.args.geometry) (g.D.Disk.view.contents c.open.new.disk)
    (g.D.Disk.view.unsynced c.open.new.disk) c.in_ok-open.ensures.stored
    (subst (IsEmptyCache c.args.geometry) (sym bytes) (new_is_empty c.args.geometry file.lawful))

pub returns-in_err-len-clause-moments : goal.returns-in_err-len-clause-moments
returns-in_err-len-clause-moments g c =
    let disk = g.D.Disk in
    ends_asked disk.view g.met.D.Disk.only_now
    c.args.geometry disk.called c.len.result _ c.args.disk.now c.len.new.self (search rules)
    c.len.ensures.called c.len.ensures.looks.time

pub returns-then-branch-ne0-clause-moments : goal.returns-then-branch-ne0-clause-moments
returns-then-branch-ne0-clause-moments g c =
    let disk = g.D.Disk in
    ends_asked disk.view g.met.D.Disk.only_now
    c.args.geometry disk.called c.len.result _ c.args.disk.now c.len.new.self refl
    c.len.ensures.called c.len.ensures.looks.time

pub returns-in_err-file-clause-moments : goal.returns-in_err-file-clause-moments
returns-in_err-file-clause-moments g c =
    let disk = g.D.Disk in
    ends_asked disk.view g.met.D.Disk.only_now
    c.args.geometry disk.called c.len.result _ c.args.disk.now c.len.new.self (search rules)
    c.len.ensures.called c.len.ensures.looks.time

pub returns-in_err-store-clause-moments : goal.returns-in_err-store-clause-moments
returns-in_err-store-clause-moments g c =
    let disk = g.D.Disk in
    ends_unstored disk.view g.met.D.Disk.only_now
    c.args.geometry disk.called c.from_residual-in_err-store.result c.args.disk.now
    c.len.new.self c.store.new.disk c.in_ok-file.file.geometry (search rules)
    (calls_on disk.called c.len.result _ 2 c.args.disk.now c.len.new.self c.store.new.disk
    c.in_ok-len.was c.len.ensures.called c.store.ensures.calls)
    c.in_ok-file.ensures.geometry c.len.ensures.looks.kept c.len.ensures.looks.time
    c.store.ensures.any_moment

pub returns-in_err-open-clause-moments : goal.returns-in_err-open-clause-moments
returns-in_err-open-clause-moments g c =
    let disk = g.D.Disk in
    passes_shut disk.view g.met.D.Disk.only_now
    c.args.geometry disk.called c.from_residual-in_err-open.result c.args.disk.now c.len.new.self
    c.store.new.disk c.open.new.disk c.in_ok-file.file.geometry
    (calls_on disk.called c.len.result _ 2 c.args.disk.now c.len.new.self c.store.new.disk
    c.in_ok-len.was c.len.ensures.called c.store.ensures.calls)
    c.open.ensures.calls c.in_ok-file.ensures.geometry c.len.ensures.looks.kept
    c.len.ensures.looks.time
    c.store.ensures.any_moment c.in_ok-store.ensures.written c.in_ok-store.ensures.durable
    c.open.ensures.any_moment

pub returns-clause-moments : goal.returns-clause-moments
returns-clause-moments g c =
    let disk = g.D.Disk in
    passes_shut disk.view g.met.D.Disk.only_now
    c.args.geometry disk.called (Ok tt) c.args.disk.now c.len.new.self c.store.new.disk
    c.open.new.disk c.in_ok-file.file.geometry
    (calls_on disk.called c.len.result _ 2 c.args.disk.now c.len.new.self c.store.new.disk
    c.in_ok-len.was c.len.ensures.called c.store.ensures.calls)
    c.open.ensures.calls c.in_ok-file.ensures.geometry c.len.ensures.looks.kept
    c.len.ensures.looks.time
    c.store.ensures.any_moment c.in_ok-store.ensures.written c.in_ok-store.ensures.durable
    c.open.ensures.any_moment
