use Rattle.std.proofs.Common.{sym, subst}
use Rattle.cm_state.specs.Step.{Unload}
use Rattle.cm_session.specs.Moves.{SessionMatches, ReachesMachine}
use Rattle.cm_importing.specs.declared.outcome.Outcome.{Outcome}
use Rattle.cm_importing.specs.Outcomes.{outcome_alone}
use Rattle.cm_importing.specs.Groups.{Takes}
use Rattle.cm_importing.proofs.Takings.{accepting_takes, answer_alone}
use Rattle.cm_importing.proofs.unloading.unload_one.Goals as goal

pub returns-clause-machine : goal.returns-clause-machine
returns-clause-machine g c =
    let sizes = c.args.session.now.committer.sizes in
    let loader = c.args.loader.now in
    let answer = c.accept.result in
    λ k i.
    subst (λ (o : Outcome). ReachesMachine (Takes sizes k (Unload loader) o)
    (λ next. SessionMatches next c.accept.new.self)) (sym c.outcome_of_loader.ensures)
    (accepting_takes sizes k (Unload loader) answer (outcome_alone answer) _
    (c.accept.ensures.machine k i) (answer_alone answer) tt)
