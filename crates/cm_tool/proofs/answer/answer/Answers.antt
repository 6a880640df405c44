use Rattle.std.proofs.Common.{◌∙◌, ℕ, List, Some, None, ap, refl, sym, subst}
use Rattle.std.specs.Prelude.{IfSome}
use Rattle.cm_state.specs.Step.{UnloadAll}
use Rattle.cm_lines.specs.Lines.{asked_by, pieces, AsksLoader, AsksUnload, AsksTighten}
use Rattle.cm_lines.specs.Lines.{AsksUnloadAll, AsksDefine}
use Rattle.cm_tool.specs.Texts.{bad_line_reply}
use Rattle.cm_tool.specs.Ahead.{Defines}
use Rattle.cm_tool.specs.Serving.{Serves}
use Rattle.cm_tool.proofs.Asking.{asks, asks_nothing}
use Rattle.cm_tool.proofs.Commands.{stays, replies_same}
use Rattle.cm_tool.proofs.Moments.{still}
use Rattle.cm_tool.proofs.answer.answer.Goals as goal

pub returns-in-Some-clause-machine : goal.returns-in-Some-clause-machine
returns-in-Some-clause-machine g c = λ text holds.
    let there = subst (λ known. IfSome known (Defines text)) c.in-Some.is
    (c.requires text holds) in
    let call = c.define in
    subst (λ q. Serves g.D.Disk.view q call.result c.args.session.now call.new.session)
    (ap (λ (l : List ℕ). Some (AsksDefine l there.digits)) c.deref.ensures.value
    ∙ sym there.asked)
    (call.ensures.machine there.digits there.class)

pub returns-in-Some-Loader-clause-machine : goal.returns-in-Some-Loader-clause-machine
returns-in-Some-Loader-clause-machine g c = λ text holds.
    let at = c.in-Some-Loader in
    let call = c.change in
    subst (λ q. Serves g.D.Disk.view q call.result c.args.session.now call.new.session)
    (asks c.request.result _ (asked_by text) (c.request.ensures text holds)
    (at.is ∙ ap Some at.field-0-is))
    (call.ensures.machine (AsksLoader at.name.now) refl)

pub returns-in-Some-Unload-clause-machine : goal.returns-in-Some-Unload-clause-machine
returns-in-Some-Unload-clause-machine g c = λ text holds.
    let at = c.in-Some-Unload in
    let call = c.change-in-Some-Unload in
    subst (λ q. Serves g.D.Disk.view q call.result c.args.session.now call.new.session)
    (asks c.request.result _ (asked_by text) (c.request.ensures text holds)
    (at.is ∙ ap Some at.field-0-is))
    (call.ensures.machine (AsksUnload at.name.now) refl)

pub returns-in-Some-Tighten-clause-machine : goal.returns-in-Some-Tighten-clause-machine
returns-in-Some-Tighten-clause-machine g c = λ text holds.
    let at = c.in-Some-Tighten in
    let call = c.change-in-Some-Tighten in
    subst (λ q. Serves g.D.Disk.view q call.result c.args.session.now call.new.session)
    (asks c.request.result _ (asked_by text) (c.request.ensures text holds)
    (at.is ∙ ap Some at.field-0-is))
    (call.ensures.machine (AsksTighten at.name.now) refl)

pub returns-in-Some-UnloadAll-clause-machine : goal.returns-in-Some-UnloadAll-clause-machine
returns-in-Some-UnloadAll-clause-machine g c = λ text holds.
    let at = c.in-Some-UnloadAll in
    let call = c.change-in-Some-UnloadAll in
    subst (λ q. Serves g.D.Disk.view q call.result c.args.session.now call.new.session)
    (asks c.request.result _ (asked_by text) (c.request.ensures text holds)
    (at.is ∙ ap Some at.field-0-is))
    (call.ensures.machine (AsksUnloadAll (pieces 32 at.words.now))
    (ap UnloadAll c.from_words.ensures))

pub returns-in-Some-Define-clause-machine : goal.returns-in-Some-Define-clause-machine
returns-in-Some-Define-clause-machine g c = λ text holds.
    let at = c.in-Some-Define in
    let call = c.define-in-Some-Define in
    subst (λ q. Serves g.D.Disk.view q call.result c.args.session.now call.new.session)
    (asks c.request.result _ (asked_by text) (c.request.ensures text holds)
    (at.is ∙ ap Some at.field-0-is))
    (call.ensures.machine at.digits.now c.class_of.ensures)

pub returns-in-Some-Find-clause-machine : goal.returns-in-Some-Find-clause-machine
returns-in-Some-Find-clause-machine g c = λ text holds.
    let at = c.in-Some-Find in
    let s = c.args.session.now in
    subst (λ q. Serves g.D.Disk.view q c.find.result s s)
    (asks c.request.result _ (asked_by text) (c.request.ensures text holds)
    (at.is ∙ ap Some at.field-0-is))
    c.find.ensures

pub returns-in-None-clause-machine : goal.returns-in-None-clause-machine
returns-in-None-clause-machine g c = λ text holds.
    let s = c.args.session.now in
    let f = g.D.Disk.view.failures s.committer.disk in
    subst (λ q. Serves g.D.Disk.view q c.bad_line.result s s)
    (asks_nothing c.request.result (asked_by text) (c.request.ensures text holds) c.in-None.is)
    (λ k matches ready.
    stays k f
    (replies_same s.committer.sizes None k f bad_line_reply c.bad_line.result ready
    c.bad_line.ensures (refl, refl))
    (still g.D.Disk.view k s matches))
