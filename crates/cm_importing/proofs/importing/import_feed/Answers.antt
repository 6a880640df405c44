use Rattle.std.proofs.Common.{Bool, Ok, Err, refl, sym, subst, ap, ◌∙◌}
use Rattle.cm_pool.specs.Geometry.{Sizes}
use Rattle.cm_guards.specs.Calls.{LeavesOnly}
use Rattle.cm_session.specs.Moves.{SessionMatches, ReachesMachine}
use Rattle.cm_importing.specs.Groups.{pause}
use Rattle.cm_importing.specs.Runs.{RunsTurn}
use Rattle.cm_importing.proofs.Logged.{none_imported, told_of, feed_broken, feed_ended}
use Rattle.cm_importing.proofs.importing.import_feed.Goals as goal

pub groups-init : goal.groups-init
groups-init g c =
    let fn = c.args.session.now.committer in (
      refl,
      λ k i ready. record {
        next = k;
        does = (
          none_imported (LeavesOnly g.D.Disk.view) fn.sizes c.args.loader.now
              (g.F.Feed.log c.args.feed.now) (pause k fn.disk),
          ready,
        );
        matches = i;
      },
    )

pub groups-preserved : goal.groups-preserved
groups-preserved g c =
    let leaves = LeavesOnly g.D.Disk.view in
    let fn = c.args.session.now.committer in
    let old = c.groups.session.committer in
    let call = c.import_next in
    let new = call.new.session.committer in
    let loader = c.args.loader.now in
    let a = g.F.Feed.log c.args.feed.now in
    let b = g.F.Feed.log c.groups.feed in
    let d = g.F.Feed.log call.new.feed in
    let kept = c.groups.invariant in (
      call.ensures.sizes ∙ kept.0,
      λ k i ready.
          let so = kept.1 k i ready in
          let r = subst (λ (t : Bool). ReachesMachine (λ next. RunsTurn leaves fn.sizes loader b d
          (Ok t) (pause so.next old.disk) (pause next new.disk))
          (λ next. SessionMatches next call.new.session)) c.in-Ok-true.field-0-test
          (subst (λ (z : Sizes). ReachesMachine (λ next. RunsTurn leaves z loader b d
          (Ok c.in-Ok-true.field-0) (pause so.next old.disk) (pause next new.disk))
          (λ next. SessionMatches next call.new.session)) kept.0
          (c.in-Ok-true.ensures.machine so.next so.matches so.does.1)) in
          record {
            next = r.next;
            does = (
              told_of leaves fn.sizes loader a b (pause k fn.disk) (pause so.next old.disk)
                  so.does.0 r.does.0 d (pause r.next new.disk) r.does.2 r.does.1,
              r.does.3,
            );
            matches = r.matches;
          },
    )

pub returns-in-Ok-false-clause-machine : goal.returns-in-Ok-false-clause-machine
returns-in-Ok-false-clause-machine g c =
    let leaves = LeavesOnly g.D.Disk.view in
    let fn = c.args.session.now.committer in
    let old = c.groups.session.committer in
    let call = c.import_next in
    let new = call.new.session.committer in
    let loader = c.args.loader.now in
    let a = g.F.Feed.log c.args.feed.now in
    let b = g.F.Feed.log c.groups.feed in
    let d = g.F.Feed.log call.new.feed in
    let kept = c.groups.invariant in
    λ k i ready.
    let so = kept.1 k i ready in
    let r = subst (λ (t : Bool). ReachesMachine (λ next. RunsTurn leaves fn.sizes loader b d
    (Ok t) (pause so.next old.disk) (pause next new.disk))
    (λ next. SessionMatches next call.new.session)) c.in-Ok-false.field-0-test
    (subst (λ (z : Sizes). ReachesMachine (λ next. RunsTurn leaves z loader b d
    (Ok c.in-Ok-false.field-0) (pause so.next old.disk) (pause next new.disk))
    (λ next. SessionMatches next call.new.session)) kept.0
    (c.in-Ok-false.ensures.machine so.next so.matches so.does.1)) in
    record {
      next = r.next;
      does = feed_ended leaves fn.sizes loader a b d c.number.result (pause k fn.disk)
          (pause so.next old.disk) (pause r.next new.disk) so.does.0 so.does.1 r.does
          (c.number.ensures ∙ sym r.matches.told.acknowledged_is);
      matches = r.matches;
    }

pub returns-in-Err-clause-machine : goal.returns-in-Err-clause-machine
returns-in-Err-clause-machine g c =
    let leaves = LeavesOnly g.D.Disk.view in
    let fn = c.args.session.now.committer in
    let old = c.groups.session.committer in
    let call = c.import_next in
    let new = call.new.session.committer in
    let loader = c.args.loader.now in
    let a = g.F.Feed.log c.args.feed.now in
    let b = g.F.Feed.log c.groups.feed in
    let d = g.F.Feed.log call.new.feed in
    let kept = c.groups.invariant in
    λ k i ready.
    let so = kept.1 k i ready in
    let r = subst (λ (z : Sizes). ReachesMachine (λ next. RunsTurn leaves z loader b d
    (Err c.in-Err.fault) (pause so.next old.disk) (pause next new.disk))
    (λ next. SessionMatches next call.new.session)) kept.0
    (c.in-Err.ensures.machine so.next so.matches so.does.1) in
    record {
      next = r.next;
      does = feed_broken leaves fn.sizes loader a b d c.in-Err.fault (pause k fn.disk)
          (pause so.next old.disk) (pause r.next new.disk) so.does.0 so.does.1 r.does;
      matches = r.matches;
    }

pub groups-smaller : goal.groups-smaller
groups-smaller g c = c.in-Ok-true.ensures.fewer (ap Ok c.in-Ok-true.field-0-test)
