use Rattle.std.proofs.Common.{◌≡◌, [], ◌∷◌, Some, Ok, inl, refl, subst}
use Rattle.std.specs.declared.alloc.AllocError.{AllocError}
use Rattle.cm_guards.specs.Calls.{LeavesOnly}
use Rattle.cm_importing.specs.Feeds.{Given, Told, Logs, events_of_next}
use Rattle.cm_importing.specs.Groups.{pause}
use Rattle.cm_importing.proofs.Logged.{logs_on, turn_broken}
use Rattle.cm_importing.proofs.importing.import_next.Goals as goal

pub returns-in-Ok-None-clause-machine : goal.returns-in-Ok-None-clause-machine
returns-in-Ok-None-clause-machine g c =
    let a = g.F.Feed.log c.args.feed.now in
    let b = g.F.Feed.log c.next.new.self in
    λ k i ready. record {
      next = k;
      does = (
        subst (λ o. Logs a b (events_of_next {E = AllocError} (Ok o))) c.in-Ok-None.field-0-is
            c.in-Ok-None.ensures.logged,
        refl,
      );
      matches = i;
    }

pub returns-in-Err-clause-machine : goal.returns-in-Err-clause-machine
returns-in-Err-clause-machine g c =
    λ k i ready. record {
      next = k;
      does = ([], inl refl, c.in-Err.ensures.logged, refl);
      matches = i;
    }

pub returns-in-Ok-clause-machine : goal.returns-in-Ok-clause-machine
returns-in-Ok-clause-machine g c =
    let a = g.F.Feed.log c.args.feed.now in
    let b = g.F.Feed.log c.next.new.self in
    let d = g.F.Feed.log c.tell.new.self in
    let classes = c.in-Ok-Some.classes in
    let answers = c.in-Ok.outcomes.items in
    let field = c.in-Ok-Some.field-0-is in
    let same = c.in-Ok-Some.classes-is in
    let some : c.in-Ok-Some.field-0 ≡ Some classes = cc in
    let given : Logs a b (Given classes.items ∷ []) =
    subst (λ o. Logs a b (events_of_next {E = AllocError} (Ok o))) some
    c.in-Ok-Some.ensures.logged in
    let told = subst (λ l. Logs b d (Told l ∷ [])) c.deref.ensures.value c.tell.ensures.logged in
    λ k i ready.
    let r = c.in-Ok.ensures.machine k i ready in
    record {
      next = r.next;
      does = (
        record { classes = classes.items; outcomes = answers },
        r.does.0,
        logs_on a b d (Given classes.items ∷ []) (Told answers ∷ []) given told,
        r.does.1,
      );
      matches = r.matches;
    }

pub returns-in-Err-import_group-clause-machine : goal.returns-in-Err-import_group-clause-machine
returns-in-Err-import_group-clause-machine g c =
    let view = g.D.Disk.view in
    let fn = c.args.session.now.committer in
    let a = g.F.Feed.log c.args.feed.now in
    let b = g.F.Feed.log c.next.new.self in
    let classes = c.in-Ok-Some.classes in
    let field = c.in-Ok-Some.field-0-is in
    let same = c.in-Ok-Some.classes-is in
    let some : c.in-Ok-Some.field-0 ≡ Some classes = cc in
    let given : Logs a b (Given classes.items ∷ []) =
    subst (λ o. Logs a b (events_of_next {E = AllocError} (Ok o))) some
    c.in-Ok-Some.ensures.logged in
    λ k i ready.
    let r = c.in-Err-import_group.ensures.machine k i ready in
    record {
      next = r.next;
      does = turn_broken (LeavesOnly view) fn.sizes c.args.loader.now a b classes.items
          c.in-Err-import_group.fault (pause k fn.disk)
          (pause r.next c.import_group.new.session.committer.disk) given r.does;
      matches = r.matches;
    }
