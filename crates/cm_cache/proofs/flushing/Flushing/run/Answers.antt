use Rattle.std.proofs.Common.{sym, ap, subst, arith}
use Rattle.cm_commit.specs.States.{CommitterState}
use Rattle.cm_guards.specs.Calls.{LeavesOnly}
use Rattle.cm_guards.proofs.{leaves_none}
use Rattle.cm_cache.specs.declared.board_view.Seen.{Seen}
use Rattle.cm_cache.specs.Closing.{ShowsPosted}
use Rattle.cm_cache.proofs.Flushed.{receives_on}
use Rattle.cm_cache.proofs.Moments.{run_goes, run_grows, run_stores}
use Rattle.cm_cache.proofs.flushing.Flushing.run.Goals as goal

pub loop-init : goal.loop-init
loop-init g c = record {
  later = omega arith;
  moments = leaves_none g.D.Disk.view g.met.D.Disk.only_now c.args.self.committer.disk
      (ShowsPosted g.K.Naming.base c.args.self.received c.args.self.posted) c.images.ensures;
}

pub returns-then-is_done-clause-any_moment : goal.returns-then-is_done-clause-any_moment
returns-then-is_done-clause-any_moment g c =
    let view = g.D.Disk.view in
    let base = g.K.Naming.base in
    let first = c.args.self.committer.disk in
    let posted = c.args.self.posted in
    subst
    (λ (s : CommitterState g.row.D.Denot). LeavesOnly view first s.disk
    (ShowsPosted base c.end.result.received posted))
    (sym c.end.ensures.committer)
    (subst
    (λ l. LeavesOnly view first c.fetch.new.self.committer.disk (ShowsPosted base l posted))
    (sym c.end.ensures.received)
    (run_goes view base first posted c.loop.flushing c.fetch.new.self c.fetch.ensures
    c.loop.invariant.moments))

pub loop-preserved : goal.loop-preserved
loop-preserved g c =
    let view = g.D.Disk.view in
    let base = g.K.Naming.base in
    let first = c.args.self.committer.disk in
    let posted = c.args.self.posted in
    let now = c.join.new.self in
    let joined = receives_on c.loop.flushing c.fetch.new.self now c.fetch.ensures c.join.ensures in
    let same = ap (λ (s : Seen). s.receipt.number) joined.posted in
    let later = c.loop.invariant.later in
    let more = c.in-Ok.ensures.later in
    record {
      later = omega (arith, later, same, more);
      moments = subst
          (λ l. LeavesOnly view first c.in-Ok.stored.committer.disk (ShowsPosted base l posted))
          (sym c.in-Ok.ensures.received)
          (run_stores view base now.received now.posted posted first now.committer.disk
          c.in-Ok.stored.committer.disk (omega (arith, later, same))
          (run_goes view base first posted c.loop.flushing now joined c.loop.invariant.moments)
          c.in-Ok.ensures.any_moment);
    }

pub returns-in-Err-clause-any_moment : goal.returns-in-Err-clause-any_moment
returns-in-Err-clause-any_moment g c =
    let view = g.D.Disk.view in
    let base = g.K.Naming.base in
    let first = c.args.self.committer.disk in
    let posted = c.args.self.posted in
    let now = c.join.new.self in
    let joined = receives_on c.loop.flushing c.fetch.new.self now c.fetch.ensures c.join.ensures in
    let same = ap (λ (s : Seen). s.receipt.number) joined.posted in
    let later = c.loop.invariant.later in
    let ended = c.in-Err.ended in
    subst
    (λ (s : CommitterState g.row.D.Denot). LeavesOnly view first s.disk
    (ShowsPosted base c.drain.new.self.received posted))
    (sym c.drain.ensures.committer)
    (run_grows view base ended.received c.drain.new.self.received c.drain.ensures.received.0 posted
    first ended.committer.disk c.drain.ensures.received.1
    (subst
    (λ l. LeavesOnly view first ended.committer.disk (ShowsPosted base l posted))
    (sym c.in-Err.ensures.received)
    (run_stores view base now.received now.posted posted first now.committer.disk
    ended.committer.disk (omega (arith, later, same))
    (run_goes view base first posted c.loop.flushing now joined c.loop.invariant.moments)
    c.in-Err.ensures.any_moment)))
