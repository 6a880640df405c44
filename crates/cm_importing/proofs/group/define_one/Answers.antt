use Rattle.std.proofs.Common.{sym, subst}
use Rattle.cm_state.specs.Step.{Define}
use Rattle.cm_session.specs.Moves.{SessionMatches, ReachesMachine}
use Rattle.cm_importing.specs.declared.outcome.Outcome.{Outcome}
use Rattle.cm_importing.specs.Outcomes.{outcome_with}
use Rattle.cm_importing.specs.Groups.{Takes}
use Rattle.cm_importing.proofs.Takings.{accepting_takes, answer_with, class_compared}
use Rattle.cm_importing.proofs.group.define_one.Goals as goal

pub returns-clause-machine : goal.returns-clause-machine
returns-clause-machine g c =
    let sizes = c.args.session.now.committer.sizes in
    let loader = c.args.loader.now in
    let words = c.args.named.class in
    let answer = c.accept.result in
    let same = c.is_there-is_there.result in
    λ k i.
    subst (λ (o : Outcome). ReachesMachine (Takes sizes k (Define loader words) o)
    (λ next. SessionMatches next c.accept.new.self)) (sym c.outcome_of.ensures)
    (accepting_takes sizes k (Define loader words) answer (outcome_with answer same) _
    (c.accept.ensures.machine k i) (answer_with answer same)
    (class_compared sizes k loader words answer same (c.is_there-is_there.ensures k i)))
