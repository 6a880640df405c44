use Rattle.std.proofs.Common.{◌∙◌, sym}
use Rattle.std.proofs.lemmas.Result.{err_from_is_err_and}
use Rattle.cm_record_reading.specs.Reading.{pool_of, body_of, class_at, pool_behind, body_behind}
use Rattle.cm_record_reading.specs.Reading.{class_behind}
use Rattle.cm_record_reading.proofs.Spelled.{head_wrong, no_pool, no_body, ends_wrong, class_made}
use Rattle.cm_record_reading.proofs.Turns.{fails_through}
use Rattle.cm_record_reading.proofs.whole.spell_words.Goals as goal

pub returns-then-not-head_is_right : goal.returns-then-not-head_is_right
returns-then-not-head_is_right c =
    head_wrong c.args.words.now c.args.out.now.items
    (sym c.head_is_right.ensures.test ∙ c.if-not-head_is_right.true)

pub returns-in_err-main : goal.returns-in_err-main
returns-in_err-main c =
    let words = c.args.words.now in
    let out = c.args.out.now.items in
    let right = sym c.head_is_right.ensures.test ∙ c.if-not-head_is_right.false in
    let p = err_from_is_err_and c.from_residual.result c.from_residual.ensures.1 in
    rw (p.1, p.2) (fails_through c.in_err-main.field-0.0 (pool_behind out words (pool_of words))
    (class_behind out (class_at words)) (no_pool words out right) c.in_err-main.ensures.read)

pub returns-in_err-main-2 : goal.returns-in_err-main-2
returns-in_err-main-2 c =
    let words = c.args.words.now in
    let out = c.args.out.now.items in
    let right = sym c.head_is_right.ensures.test ∙ c.if-not-head_is_right.false in
    let p = err_from_is_err_and c.from_residual-in_err-main-2.result
    c.from_residual-in_err-main-2.ensures.1 in
    rw (p.1, p.2) (fails_through c.in_err-main-2.field-0.0
    (body_behind c.spell_pool.new.out.items
    (body_of words c.in_ok-main.main.now c.in_ok-main.runs.now))
    (class_behind out (class_at words))
    (no_body words out right c.spell_pool.new.out.items c.in_ok-main.main.now
    c.in_ok-main.runs.now c.in_ok-main.ensures.read)
    (rw (
      c.words_from-attributes.ensures,
      c.of-counts.ensures.fields,
      c.of-counts.ensures.methods,
      c.of-counts.ensures.attributes,
    ) at c.in_err-main-2.ensures))

pub returns-then-not-sections_end : goal.returns-then-not-sections_end
returns-then-not-sections_end c =
    let words = c.args.words.now in
    let out = c.args.out.now.items in
    let right = sym c.head_is_right.ensures.test ∙ c.if-not-head_is_right.false in
    let body = rw (
      c.words_from-attributes.ensures,
      c.of-counts.ensures.fields,
      c.of-counts.ensures.methods,
      c.of-counts.ensures.attributes,
    ) at c.in_ok-main-2.ensures in
    ends_wrong words out right c.spell_pool.new.out.items c.in_ok-main.main.now
    c.in_ok-main.runs.now c.in_ok-main.ensures.read
    c.spell_body.new.out.items c.in_ok-main-2.main.now c.in_ok-main-2.attributes.now
    c.in_ok-main-2.runs.now body
    (sym c.sections_end.ensures ∙ c.if-not-sections_end.true)

pub returns : goal.returns
returns c =
    let words = c.args.words.now in
    let out = c.args.out.now.items in
    let right = sym c.head_is_right.ensures.test ∙ c.if-not-head_is_right.false in
    let body = rw (
      c.words_from-attributes.ensures,
      c.of-counts.ensures.fields,
      c.of-counts.ensures.methods,
      c.of-counts.ensures.attributes,
    ) at c.in_ok-main-2.ensures in
    class_made words out right c.spell_pool.new.out.items c.in_ok-main.main.now
    c.in_ok-main.runs.now c.in_ok-main.ensures.read
    c.spell_body.new.out.items c.in_ok-main-2.main.now c.in_ok-main-2.attributes.now
    c.in_ok-main-2.runs.now body
    (sym c.sections_end.ensures ∙ c.if-not-sections_end.false)
