use Rattle.std.proofs.Common.{subst}
use Rattle.cm_pool.specs.Geometry.{Sizes}
use Rattle.cm_guards.specs.Calls.{LeavesOnly}
use Rattle.cm_session.specs.Moves.{SessionMatches, ReachesMachine}
use Rattle.cm_importing.specs.Groups.{pause}
use Rattle.cm_importing.specs.Runs.{RunsFeed}
use Rattle.cm_importing.proofs.Logged.{runs_on, loader_ends}
use Rattle.cm_importing.proofs.importing.import_all.Goals as goal

pub returns-in-Ok-clause-machine : goal.returns-in-Ok-clause-machine
returns-in-Ok-clause-machine g c =
    let leaves = LeavesOnly g.D.Disk.view in
    let fn = c.args.session.now.committer in
    let mid = c.add_loader.new.session.committer in
    let new = c.import_feed.new.session.committer in
    let loader = c.args.loader.now in
    let a = g.F.Feed.log c.args.feed.now in
    let d = g.F.Feed.log c.import_feed.new.feed in
    λ k i ready.
    let l = c.in-Ok.ensures.machine k i ready in
    let r = subst (λ (z : Sizes). ReachesMachine (λ next. RunsFeed leaves z loader a d
    c.import_feed.result (pause l.next mid.disk) (pause next new.disk))
    (λ next. SessionMatches next c.import_feed.new.session)) c.add_loader.ensures.sizes
    (c.import_feed.ensures.machine l.next l.matches l.does.1) in
    record {
      next = r.next;
      does = runs_on leaves fn.sizes loader a d c.import_feed.result (pause k fn.disk)
          (pause l.next mid.disk) (pause r.next new.disk) l.does.0 r.does;
      matches = r.matches;
    }

pub returns-in-Err-clause-machine : goal.returns-in-Err-clause-machine
returns-in-Err-clause-machine g c =
    let fn = c.args.session.now.committer in
    λ k i ready.
    let l = c.in-Err.ensures.machine k i ready in
    record {
      next = l.next;
      does = loader_ends (LeavesOnly g.D.Disk.view) fn.sizes c.args.loader.now
          (g.F.Feed.log c.args.feed.now) c.in-Err.fault (pause k fn.disk)
          (pause l.next c.add_loader.new.session.committer.disk) l.does;
      matches = l.matches;
    }
