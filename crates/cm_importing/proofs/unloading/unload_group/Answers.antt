use Rattle.std.proofs.Common.{refl, sym, ap, subst}
use Rattle.cm_guards.specs.Calls.{LeavesOnly}
use Rattle.cm_commit.specs.States.{CommitterState}
use Rattle.cm_session.specs.declared.session.Session.{Session}
use Rattle.cm_session.specs.Images.{StandsForSome}
use Rattle.cm_session.specs.Moves.{SessionMatches}
use Rattle.cm_session.specs.Committing.{all_handed}
use Rattle.cm_importing.specs.Groups.{pause}
use Rattle.cm_importing.specs.Unloading.{unloads}
use Rattle.cm_importing.proofs.Takings.{taken_is_caught, commit_ok, commit_err, group_stored}
use Rattle.cm_importing.proofs.Takings.{group_lost}
use Rattle.cm_importing.proofs.unloading.unload_group.Goals as goal

pub returns-in-Err-clause-machine : goal.returns-in-Err-clause-machine
returns-in-Err-clause-machine g c =
    let same = c.in-Err.ensures.none refl in
    λ k i ready. record {
      next = k;
      does = ap (λ (s : Session _). pause k s.committer.disk) same;
      matches = subst (λ (s : Session _). SessionMatches k s) (sym same) i;
    }

pub returns-clause-machine : goal.returns-clause-machine
returns-clause-machine g c =
    let view = g.D.Disk.view in
    let fn = c.args.session.now.committer in
    let new = c.commit.new.self.committer in
    let asked = unloads c.args.loaders.items in
    let answers = c.in-Ok.outcomes.items in
    λ k i ready.
    let t = c.in-Ok.ensures.machine k i in
    let caught = taken_is_caught fn.sizes k asked answers t.next t.does ready in
    let moments = subst (λ (b : CommitterState _). LeavesOnly view b.disk new.disk
    (StandsForSome b.sizes (all_handed t.next))) c.in-Ok.ensures.disk
    (c.commit.ensures.any_moment t.next t.matches caught) in
    group_stored (LeavesOnly view) fn.sizes asked answers fn.disk new.disk k t.next ready t.does
    moments _ (commit_ok t.next _ c.commit.result c.is_err.result c.is_err.ensures.value
    c.if-is_err.false (c.commit.ensures.machine t.next t.matches caught))

pub returns-then-is_err-clause-machine : goal.returns-then-is_err-clause-machine
returns-then-is_err-clause-machine g c =
    let view = g.D.Disk.view in
    let fn = c.args.session.now.committer in
    let new = c.commit.new.self.committer in
    let asked = unloads c.args.loaders.items in
    let answers = c.in-Ok.outcomes.items in
    λ k i ready.
    let t = c.in-Ok.ensures.machine k i in
    let caught = taken_is_caught fn.sizes k asked answers t.next t.does ready in
    let moments = subst (λ (b : CommitterState _). LeavesOnly view b.disk new.disk
    (StandsForSome b.sizes (all_handed t.next))) c.in-Ok.ensures.disk
    (c.commit.ensures.any_moment t.next t.matches caught) in
    group_lost (LeavesOnly view) fn.sizes asked answers fn.disk new.disk k t.next ready t.does
    moments _ (commit_err t.next _ c.commit.result c.is_err.result c.is_err.ensures.value
    c.if-is_err.true (c.commit.ensures.machine t.next t.matches caught))
