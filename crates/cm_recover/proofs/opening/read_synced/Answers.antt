use Rattle.std.proofs.Common.{ℕ, List, subst, ap, rules}
use Rattle.std.specs.Prelude.{is_ok}
use Rattle.cm_verdict.specs.Verdict.{verdict}
use Rattle.cm_verdict.specs.Standing.{FollowsVerdict}
use Rattle.cm_recover.specs.Standing.{IsStanding}
use Rattle.cm_recover.proofs.SyncRuns.{not_synced, synced, always_ok, durable_after}
use Rattle.cm_recover.proofs.opening.read_synced.Goals as goal

pub returns-in_err-sync-clause-run : goal.returns-in_err-sync-clause-run
returns-in_err-sync-clause-run g c =
    let disk = g.D.Disk in
    not_synced disk.view g.met.D.Disk.only_now c.args.disk.now c.sync.new.self c.sync.result
    c.in_err-sync.field-0.0 _ c.sync.ensures.syncs (c.in_err-sync.was {u = tt}) (search rules)

pub returns-clause-standing : goal.returns-clause-standing
returns-clause-standing g c =
    subst (λ (l : List ℕ). FollowsVerdict (IsStanding l) c.read_standing_by.result (verdict l))
    c.sync.ensures.syncs.same c.read_standing_by.ensures.standing

pub returns-clause-stored : goal.returns-clause-stored
returns-clause-stored g c =
    let disk = g.D.Disk in
    let reads = c.read_standing_by.ensures.reads in
    always_ok c.read_standing_by.result _
    (durable_after (disk.view.contents c.sync.new.self)
    (disk.view.contents c.read_standing_by.new.disk)
    (disk.view.unsynced c.sync.new.self) (disk.view.unsynced c.read_standing_by.new.disk)
    c.in_ok-sync.ensures.syncs.durable reads.contents_stay reads.unsynced_stay)

pub returns-clause-run : goal.returns-clause-run
returns-clause-run g c =
    let disk = g.D.Disk in
    synced disk.view g.met.D.Disk.only_now c.args.disk.now c.sync.new.self
    c.read_standing_by.new.disk c.sync.result _ (g.met.D.Disk.sound c.args.disk.now)
    c.sync.ensures.syncs (ap is_ok c.in_ok-sync.was) c.in_ok-sync.ensures.syncs.durable
    c.read_standing_by.ensures.reads
