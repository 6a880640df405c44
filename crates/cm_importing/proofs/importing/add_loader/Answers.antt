use Rattle.std.proofs.Common.{[], ◌∷◌, refl, subst}
use Rattle.cm_guards.specs.Calls.{LeavesOnly}
use Rattle.cm_state.specs.Step.{AddLoader}
use Rattle.cm_commit.specs.States.{CommitterState}
use Rattle.cm_session.specs.Images.{StandsForSome}
use Rattle.cm_session.specs.Committing.{all_handed}
use Rattle.cm_importing.specs.Groups.{pause}
use Rattle.cm_importing.specs.Outcomes.{outcome_alone}
use Rattle.cm_importing.proofs.Takings.{accepting_takes, answer_alone, taken_is_caught, commit_ok}
use Rattle.cm_importing.proofs.Takings.{commit_err}
use Rattle.cm_importing.proofs.Takings.{group_stored, group_lost, loader_answered}
use Rattle.cm_importing.proofs.importing.add_loader.Goals as goal

pub returns-then-is_err-clause-machine : goal.returns-then-is_err-clause-machine
returns-then-is_err-clause-machine g c =
    let view = g.D.Disk.view in
    let fn = c.args.session.now.committer in
    let new = c.commit.new.self.committer in
    let asked = AddLoader c.args.loader.now ∷ [] in
    let answer = c.accept-answer.result in
    let outcome = outcome_alone answer in
    λ k i ready.
    let t = accepting_takes fn.sizes k (AddLoader c.args.loader.now) answer outcome _
    (c.accept-answer.ensures.machine k i) (answer_alone answer) tt in
    let caught = taken_is_caught fn.sizes k asked (outcome ∷ []) t.next (t.next, t.does, refl) ready
    in
    let moments = subst (λ (b : CommitterState _). LeavesOnly view b.disk new.disk
    (StandsForSome b.sizes (all_handed t.next))) c.accept-answer.ensures.disk
    (c.commit.ensures.any_moment t.next t.matches caught) in
    group_lost (LeavesOnly view) fn.sizes asked (outcome ∷ []) fn.disk new.disk k t.next ready
    (t.next, t.does, refl) moments _ (commit_err t.next _ c.commit.result c.is_err.result
    c.is_err.ensures.value c.if-is_err.true (c.commit.ensures.machine t.next t.matches caught))

pub returns-clause-machine : goal.returns-clause-machine
returns-clause-machine g c =
    let view = g.D.Disk.view in
    let fn = c.args.session.now.committer in
    let new = c.commit.new.self.committer in
    let asked = AddLoader c.args.loader.now ∷ [] in
    let answer = c.accept-answer.result in
    let outcome = outcome_alone answer in
    λ k i ready.
    let t = accepting_takes fn.sizes k (AddLoader c.args.loader.now) answer outcome _
    (c.accept-answer.ensures.machine k i) (answer_alone answer) tt in
    let caught = taken_is_caught fn.sizes k asked (outcome ∷ []) t.next (t.next, t.does, refl) ready
    in
    let moments = subst (λ (b : CommitterState _). LeavesOnly view b.disk new.disk
    (StandsForSome b.sizes (all_handed t.next))) c.accept-answer.ensures.disk
    (c.commit.ensures.any_moment t.next t.matches caught) in
    let s = group_stored (LeavesOnly view) fn.sizes asked (outcome ∷ []) fn.disk new.disk k t.next
    ready (t.next, t.does, refl) moments _ (commit_ok t.next _ c.commit.result c.is_err.result
    c.is_err.ensures.value c.if-is_err.false
    (c.commit.ensures.machine t.next t.matches caught)) in
    record {
      next = s.next;
      does = loader_answered (LeavesOnly view) fn.sizes c.args.loader.now answer (pause k fn.disk)
          (pause s.next new.disk) s.does.0 s.does.1 c.check_there.result c.check_there.ensures;
      matches = s.matches;
    }
