use Rattle.std.proofs.Common.{◌≤◌}
use Rattle.cm_guards.specs.Calls.{LeavesOnly}
use Rattle.cm_cache.specs.Closing.{ShowsPosted}
use Rattle.cm_cache.proofs.flushing.Flushing.run.Given as goal

abbrev pub invariant-loop : goal.invariant-loop
invariant-loop g l = record {
  later : l.initial.flushing.posted.receipt.number ≤ l.flushing.posted.receipt.number;
  moments : LeavesOnly g.D.Disk.view l.initial.flushing.committer.disk l.flushing.committer.disk
      (ShowsPosted g.K.Naming.base l.flushing.received l.initial.flushing.posted);
}
