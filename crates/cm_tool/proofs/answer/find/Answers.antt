use Rattle.std.proofs.Common.{Some, None, Err, inl, length, sym, ap, refl, subst}
use Rattle.std.specs.Prelude.{IfOk}
use Rattle.std.specs.Arc.{arc_value}
use Rattle.cm_class.specs.declared.class_file.ClassFile.{ClassFile}
use Rattle.cm_record.specs.Layout.{IsRecordOf}
use Rattle.cm_handover.specs.Laws.{Finds}
use Rattle.cm_lines.specs.Lines.{AsksFind}
use Rattle.cm_tool.specs.Texts.{class_reply, none_reply, bad_line_reply}
use Rattle.cm_tool.specs.Replies.{IsReply}
use Rattle.cm_tool.specs.Answers.{served}
use Rattle.cm_tool.proofs.Commands.{stays, replies_same, replies_found, finds_none}
use Rattle.cm_tool.proofs.Commands.{answers_bad_name}
use Rattle.cm_tool.proofs.Moments.{still}
use Rattle.cm_tool.proofs.answer.find.Goals as goal

pub returns-in-Err-BadEscape : goal.returns-in-Err-BadEscape
returns-in-Err-BadEscape g c =
    let s = c.args.session.now in
    let sizes = s.committer.sizes in
    let f = g.D.Disk.view.failures s.committer.disk in
    let loader = c.args.loader.now in
    let word = c.args.class.now in
    λ k matches ready.
    stays k f
    (replies_same sizes (Some (AsksFind loader word)) k f bad_line_reply c.bad_line.result ready
    c.bad_line.ensures
    (answers_bad_name sizes loader word (served k f)
    (c.in-Err-BadEscape.ensures.bad (ap Err c.in-Err-BadEscape.field-0-is))))
    (still g.D.Disk.view k s matches)

pub returns-in-Err-NoMemory : goal.returns-in-Err-NoMemory
returns-in-Err-NoMemory g c =
    let s = c.args.session.now in
    let disk = g.D.Disk in
    λ k matches ready.
    stays k (disk.view.failures s.committer.disk) (inl refl)
    (still disk.view k s matches)

pub returns-in-Some : goal.returns-in-Some
returns-in-Some g c =
    let s = c.args.session.now in
    let sizes = s.committer.sizes in
    let f = g.D.Disk.view.failures s.committer.disk in
    let loader = c.args.loader.now in
    let word = c.args.class.now in
    let words = c.deref-in-Some-2.result.now in
    let says = λ (f : ClassFile) (laid : IsRecordOf f words).
    subst (λ n. IfOk c.class.result (IsReply (class_reply n f (length words))))
    c.deref-in-Some.ensures.value (c.class.ensures.given f laid) in
    λ k matches ready.
    let finds = subst (λ w. Finds sizes k loader c.in-Ok.name.items (Some w))
    (sym c.deref-in-Some-2.ensures)
    (subst (λ n. Finds sizes k loader n (Some (arc_value c.in-Some.class.now)))
    c.deref.ensures.value (c.in-Some.ensures k matches)) in
    stays k f
    (replies_found sizes loader word c.in-Ok.name.items words k f c.class.result ready
    c.in-Ok.ensures.name finds says c.class.ensures.laid)
    (still g.D.Disk.view k s matches)

pub returns : goal.returns
returns g c =
    let s = c.args.session.now in
    let sizes = s.committer.sizes in
    let f = g.D.Disk.view.failures s.committer.disk in
    let loader = c.args.loader.now in
    let word = c.args.class.now in
    λ k matches ready.
    let finds =
    subst (λ n. Finds sizes k loader n None) c.deref.ensures.value (c.in-None.ensures k matches) in
    stays k f
    (replies_same sizes (Some (AsksFind loader word)) k f none_reply c.none.result ready
    c.none.ensures
    (finds_none sizes loader word c.in-Ok.name.items k f c.in-Ok.ensures.name finds))
    (still g.D.Disk.view k s matches)
