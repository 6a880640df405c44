use Rattle.std.proofs.Common.{◌≡◌, ◌-◌, ◌∙◌, arith}
use Rattle.cm_descriptors.specs.Forms.{after_field}
use Rattle.cm_descriptors.proofs.FormLoops.{field_bracket, field_element, field_nothing}
use Rattle.cm_descriptors.proofs.descriptors.skip_field.Goals as goal

pub returns-in_err-byte : goal.returns-in_err-byte
returns-in_err-byte c =
    rw c.from_residual.ensures
    (field_nothing _ c.loop.rest.now (after_field 255 c.args.bytes.now) (c.in_err-byte.ensures.none)
    c.loop.invariant)

pub returns-then-byte-ne91 : goal.returns-then-byte-ne91
returns-then-byte-ne91 c =
    c.skip_element.ensures ∙ field_element _ c.in_ok-byte.byte c.loop.rest.now
    c.in_ok-byte.inner.now (after_field 255 c.args.bytes.now) c.in_ok-byte.ensures.some
    c.if-byte-ne91.true c.loop.invariant

pub loop-preserved : goal.loop-preserved
loop-preserved c =
    field_bracket 255 c.loop.counter c.in_ok-byte.byte c.loop.rest.now c.in_ok-byte.inner.now
    (after_field 255 c.args.bytes.now) c.loop-test.true c.in_ok-byte.ensures.some
    c.if-byte-ne91.false c.loop.invariant

pub returns : goal.returns
returns c = let k : 255 - c.loop.counter ≡ 0 =
    omega arith in c.skip_element-2.ensures ∙ (rw k at c.loop.invariant)
