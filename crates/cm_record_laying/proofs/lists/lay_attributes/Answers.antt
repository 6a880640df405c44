use Rattle.std.proofs.Common.{◌≡◌, ◌+◌, refl, subst, arith}
use Rattle.cm_record_laying.specs.Laying.{LaysAttributes}
use Rattle.cm_record_laying.proofs.Joins.{no_attributes, attributes_then}
use Rattle.cm_record_laying.proofs.lists.lay_attributes.Goals as goal

pub loop-init : goal.loop-init
loop-init c = no_attributes c.args.bytes.now c.args.sections.now

pub loop-preserved : goal.loop-preserved
loop-preserved c =
    attributes_then c.loop.counter 1 (c.loop.counter + 1) c.args.bytes.now c.loop.rest.now
    c.in_ok-rest.rest.now c.args.sections.now c.loop.sections c.lay_attribute.new.sections refl
    c.loop.invariant (c.in_ok-rest.ensures {u = tt})

pub returns : goal.returns
returns c =
    let all : c.loop.counter ≡ c.args.count =
    omega (arith, c.loop-test.false, c.loop.auto.counter-end) in
    subst
    (λ n. LaysAttributes n c.args.bytes.now c.args.sections.now c.loop.sections c.loop.rest.now) all
    c.loop.invariant
