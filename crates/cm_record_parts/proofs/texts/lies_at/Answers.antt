use Rattle.std.proofs.Common.{◌<◌, ◌∙◌, get_or, ap, sym, arith}
use Rattle.cm_record_parts.proofs.TextBytes.{byte_there, differ, agree}
use Rattle.cm_record_parts.proofs.texts.lies_at.Goals as goal

pub returns-then-byte_at-bytes : goal.returns-then-byte_at-bytes
returns-then-byte_at-bytes c = λ own lies.
    let i = c.loop-i.i in
    let lt : i < c.args.place.len = omega (arith, c.loop-i-test.true, c.if-place-bytes.false) in
    differ own c.args.bytes.now (λ e. c.if-byte_at-bytes.true (c.byte_at.ensures
    ∙ (byte_there c.args.words.now c.args.place own lies i lt ∙ ap (λ l. get_or l i 0) e)))

pub returns : goal.returns
returns c = λ own lies.
    agree own c.args.bytes.now (sym lies.len ∙ c.if-place-bytes.false)
    (λ i lt. sym (byte_there c.args.words.now c.args.place own lies i (omega (arith, lt, lies.len)))
    ∙ c.loop-i.invariant i
    (omega (arith, lt, lies.len, c.if-place-bytes.false, c.loop-i-test.false)))
