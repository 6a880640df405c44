use Rattle.std.proofs.Common.{◌∙◌, ap, inl, refl, subst, Some}
use Rattle.hex.specs.Hex.{decode_of}
use Rattle.cm_state.specs.Step.{Define}
use Rattle.cm_commit.specs.States.{CommitterState}
use Rattle.cm_lines.specs.Lines.{AsksDefine}
use Rattle.cm_tool.specs.Texts.{defined_reply, refusal_reply}
use Rattle.cm_tool.specs.Answers.{served}
use Rattle.cm_tool.specs.Ahead.{IsClassOf}
use Rattle.cm_tool.proofs.Commands.{command_replies, define_fits, class_named, stays}
use Rattle.cm_tool.proofs.Commands.{replies_same, answers_refused}
use Rattle.cm_tool.proofs.Moments.{still}
use Rattle.cm_tool.proofs.answer.define.Goals as goal

pub returns-in-Ready-clause-machine : goal.returns-in-Ready-clause-machine
returns-in-Ready-clause-machine g c =
    let s = c.args.session.now in
    let loader = c.args.loader.now in
    let words = c.in-Ready.class in
    let call = c.store-stored in
    let disk = g.D.Disk in
    let name = c.deref.result.now in
    λ digits known k matches ready.
    let p = subst (IsClassOf (decode_of digits)) c.in-Ready.is known in
    let class = p.2.class in
    command_replies disk.view (Some (AsksDefine loader digits))
    (λ n. defined_reply n name) k (Define loader words) (disk.view.failures s.committer.disk)
    (disk.view.failures call.new.self.committer.disk) s call.new.self call.result
    c.tell_class.result ready
    (define_fits c.layout_determines_class.ensures s.committer.sizes loader digits p.0 words name
    class p.1 p.2.right p.2.laid
    (λ short. c.deref.ensures.value ∙ p.3
    ∙ class_named p.0 words class c.words_tell_name.ensures p.2.right p.2.laid short))
    (call.ensures.machine k matches ready.rest) (call.ensures.cause k matches ready.rest)
    (λ none. ap (λ (x : CommitterState _). disk.view.failures x.disk) (call.ensures.no_call none))
    call.ensures.no_call c.tell_class.ensures

pub returns-in-Refused-clause-machine : goal.returns-in-Refused-clause-machine
returns-in-Refused-clause-machine g c =
    let s = c.args.session.now in
    let f = g.D.Disk.view.failures s.committer.disk in
    let sizes = s.committer.sizes in
    let loader = c.args.loader.now in
    let refusal = c.in-Refused.refusal in
    λ digits known k matches ready.
    let p = subst (IsClassOf (decode_of digits)) c.in-Refused.is known in
    stays k f
    (replies_same sizes (Some (AsksDefine loader digits)) k f (refusal_reply refusal)
    c.refused.result ready c.refused.ensures
    (answers_refused sizes loader digits refusal (served k f) p))
    (still g.D.Disk.view k s matches)

pub returns-in-NoMemory-clause-machine : goal.returns-in-NoMemory-clause-machine
returns-in-NoMemory-clause-machine g c =
    let s = c.args.session.now in
    let disk = g.D.Disk in
    λ digits known k matches ready.
    stays k (disk.view.failures s.committer.disk) (inl refl)
    (still disk.view k s matches)
