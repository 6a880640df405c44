use Rattle.cm_attributes.specs.declared.part.Part.TheVariants.{Any}
use Rattle.cm_attributes.specs.Contents.{past_parts}
use Rattle.cm_attributes.proofs.PartsInOrder.{part_is_passed, part_is_refused, all_are_passed}
use Rattle.cm_attributes.proofs.part.skip_parts.Goals as goal

pub returns-in_err-rest : goal.returns-in_err-rest
returns-in_err-rest c =
    rw c.from_residual.ensures
    (part_is_refused c.args.class.now Any c.args.parts.now c.loop-part.part-index
    c.loop-part.rest.now (past_parts c.args.class.now c.args.parts.now c.args.bytes.now)
    c.loop-part-test.true c.in_err-rest.ensures c.loop-part.invariant)

pub loop-part-preserved : goal.loop-part-preserved
loop-part-preserved c =
    part_is_passed c.args.class.now Any c.args.parts.now c.loop-part.part-index c.loop-part.rest.now
    c.in_ok-rest.rest.now (past_parts c.args.class.now c.args.parts.now c.args.bytes.now)
    c.loop-part-test.true c.in_ok-rest.ensures c.loop-part.invariant

pub returns : goal.returns
returns c = all_are_passed c.args.class.now Any c.args.parts.now c.loop-part.part-index
    c.loop-part.rest.now (past_parts c.args.class.now c.args.parts.now c.args.bytes.now)
    c.loop-part-test.false c.loop-part.invariant
