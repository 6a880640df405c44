use Rattle.std.proofs.Common.{◌∙◌, sym}
use Rattle.std.proofs.lemmas.Result.{err_from_is_err_and}
use Rattle.cm_record_reading.specs.Reading.{run_at, with_front, appended, utf8_bytes}
use Rattle.cm_record_reading.proofs.Counts.{utf8_spelled}
use Rattle.cm_record_reading.proofs.Turns.{fails_through}
use Rattle.cm_record_reading.proofs.spelling.spell_utf8.Goals as goal

pub returns-in_err-rest-clause-read : goal.returns-in_err-rest-clause-read
returns-in_err-rest-clause-read c =
    let same =
    utf8_spelled c.args.out.now.items c.put_index.new.out.items c.args.count c.args.runs.now
    c.in_ok-put_index.ensures in
    let p = err_from_is_err_and c.from_residual-in_err-rest.result
    c.from_residual-in_err-rest.ensures.1 in
    rw (p.1, p.2) (fails_through c.in_err-rest.field-0.0
    (with_front c.put_index.new.out.items (run_at c.args.count c.args.runs.now))
    (appended c.args.out.now.items utf8_bytes (run_at c.args.count c.args.runs.now))
    (λ none. sym same ∙ none) (rw c.from.ensures at c.in_err-rest.ensures.read))

pub returns-clause-read : goal.returns-clause-read
returns-clause-read c =
    sym (utf8_spelled c.args.out.now.items c.put_index.new.out.items c.args.count
    c.args.runs.now c.in_ok-put_index.ensures)
    ∙ rw c.from.ensures at c.in_ok-rest.ensures.read
