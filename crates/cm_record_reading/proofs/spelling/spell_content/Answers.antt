use Rattle.std.proofs.Common.{◌∙◌, ◌++◌, sym, ap}
use Rattle.std.proofs.lemmas.Result.{err_from_is_err_and}
use Rattle.cm_class.specs.Spelling.{u4}
use Rattle.cm_record_reading.specs.Reading.{run_at, with_front, appended, content_bytes}
use Rattle.cm_record_reading.proofs.Counts.{content_spelled}
use Rattle.cm_record_reading.proofs.Turns.{fails_through}
use Rattle.cm_record_reading.proofs.spelling.spell_content.Goals as goal

pub returns-in_err-rest-clause-read : goal.returns-in_err-rest-clause-read
returns-in_err-rest-clause-read c =
    let put = c.in_ok-put_u32.ensures ∙ ap (λ w. w ++ u4 c.args.count) c.in_ok-put_u16.ensures in
    let same =
    content_spelled c.args.name c.args.out.now.items c.put_u32.new.out.items c.args.count
    c.args.runs.now put in
    let p = err_from_is_err_and c.from_residual-in_err-rest.result
    c.from_residual-in_err-rest.ensures.1 in
    rw (p.1, p.2) (fails_through c.in_err-rest.field-0.0
    (with_front c.put_u32.new.out.items (run_at c.args.count c.args.runs.now))
    (appended c.args.out.now.items (content_bytes c.args.name)
    (run_at c.args.count c.args.runs.now)) (λ none. sym same ∙ none)
    c.in_err-rest.ensures.read)

pub returns-clause-read : goal.returns-clause-read
returns-clause-read c =
    let put = c.in_ok-put_u32.ensures ∙ ap (λ w. w ++ u4 c.args.count) c.in_ok-put_u16.ensures in
    sym (content_spelled c.args.name c.args.out.now.items c.put_u32.new.out.items c.args.count
    c.args.runs.now put) ∙ c.in_ok-rest.ensures.read
