use Rattle.std.proofs.Common.{Some, refl}
use Rattle.std.proofs.lemmas.Result.{IfOk-weaker}
use Rattle.cm_verdict.proofs.RecordPlaces.{is_read, made_so}
use Rattle.cm_verdict.proofs.second_pass.SecondPass.prepare.Goals as goal

pub of_record-requires : goal.of_record-requires
of_record-requires c =
    let words = c.args.content in
    let r = is_read words words (Some words) refl (refl, c.requires) in
    (r.class, r.keeps, r.laid)

pub returns : goal.returns
returns c =
    let words = c.args.content in
    let r = is_read words words (Some words) refl (refl, c.requires) in
    IfOk-weaker c.of_record.result _ _
    (λ made is. made_so words words made r is c.invariant_holds.ensures.short
    c.words_tell_name.ensures) c.of_record.ensures
