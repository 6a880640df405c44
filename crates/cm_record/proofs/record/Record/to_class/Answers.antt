use Rattle.std.proofs.Common.{◌∙◌, ℕ, List, sym, subst}
use Rattle.std.proofs.lemmas.Result.{IfOk-weaker}
use Rattle.cm_class.specs.declared.class_file.ClassFile.{ClassFile}
use Rattle.cm_record_layout.specs.Layout.{IsRecordOf}
use Rattle.cm_record.proofs.record.Record.to_class.Goals as goal

pub returns-in-Ok : goal.returns-in-Ok
returns-in-Ok c =
    let found = c.in-Ok.ensures.ok in
    let own = subst (λ (w : List ℕ). IsRecordOf found.0 w) c.as_slice.ensures.words found.1 in
    IfOk-weaker c.class_of_spelling.result _ _
    (λ class same. subst (λ (x : ClassFile). IsRecordOf x c.args.self.now) (sym same) own)
    (c.class_of_spelling.ensures found.0
    (record { fits = found.1.spelled; spelled = c.deref.ensures.value ∙ found.2 }))
