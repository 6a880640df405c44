use Rattle.std.proofs.Common.{None, sym, ap, ◌∙◌}
use Rattle.std.proofs.lemmas.Result.{IfOk-weaker}
use Rattle.cm_record_layout.specs.Layout.{IsRecord}
use Rattle.cm_rules.specs.Fault.{fault}
use Rattle.cm_verdict.proofs.KeptRecords.{kept_by, no_record}
use Rattle.cm_verdict.proofs.record.are_kept.Goals as goal

pub returns-then-not-is_record : goal.returns-then-not-is_record
returns-then-not-is_record c =
    sym (no_record c.args.words.now c.requires
    (λ r. let is = c.is_record.ensures.1 r in let no = c.if-not-is_record.true in cc))

pub judge_words-requires : goal.judge_words-requires
judge_words-requires c = c.is_record.ensures.0 c.if-not-is_record.false

pub returns-then-judge_words : goal.returns-then-judge_words
returns-then-judge_words c =
    let r : IsRecord c.args.words.now = c.is_record.ensures.0 c.if-not-is_record.false in
    kept_by c.args.words.now r.0 None r.1
    (sym (c.judge_words.ensures c.if-judge_words.true r.0 r.1))

pub returns-in_ok-class-in-Ok : goal.returns-in_ok-class-in-Ok
returns-in_ok-class-in-Ok c =
    let found = c.in-Ok.ensures.ok in
    let same = c.in_ok-class-in-Ok.ensures found.0
    (record { fits = found.1.spelled; spelled = c.deref.ensures.value ∙ found.2 }) in
    IfOk-weaker c.keeps_rules.result _ _
    (λ kept is. is ∙ kept_by c.args.words.now found.0 (fault c.in_ok-class-in-Ok.class) found.1
    (ap fault same))
    c.keeps_rules.ensures

pub returns-in-Err-NotARecord : goal.returns-in-Err-NotARecord
returns-in-Err-NotARecord c =
    let e = c.in-Err-NotARecord.ensures {u = tt} in
    sym (no_record c.args.words.now c.requires
    (e.not_a_record (let is = c.in-Err-NotARecord.field-0-is in cc)))
