use Rattle.std.proofs.Common.{◌≡◌, ◌∙◌, sym, arith}
use Rattle.std.specs.Prelude.{is_some}
use Rattle.cm_record_reading.specs.Reading.{class_at}
use Rattle.cm_record_reading.proofs.TakenRecord.{record_of_read, read_of_record}
use Rattle.cm_record_reading.proofs.checking.is_record.Goals as goal

pub returns-then-words : goal.returns-then-words
returns-then-words c =
    let words = c.args.words.now in
    let same : c.is_some.result ≡ is_some (class_at words) =
    c.is_some.ensures ∙ c.sections_fit.ensures in (
      λ yes. record_of_read words (omega (arith, c.type_inv.words 1))
          (omega (arith, c.type_inv.words 2)) c.if-words.true (sym same ∙ yes),
      λ is. same ∙ read_of_record words is,
    )
