use Rattle.std.proofs.Common.{◌≡◌, ◌-◌, subst, arith}
use Rattle.cm_record_laying.specs.Laying.{LaysSlots}
use Rattle.cm_record_laying.proofs.Joins.{no_slots, slots_then}
use Rattle.cm_record_laying.proofs.constants.lay_slots.Goals as goal

pub loop-left-init : goal.loop-left-init
loop-left-init c =
    let none : 0 ≡ c.args.count - c.args.count = omega arith in
    record {
      within = omega arith;
      laid = subst
          (λ n. LaysSlots n c.args.bytes.now c.args.sections.now c.args.sections.now
          c.args.bytes.now) none
          (no_slots c.args.bytes.now c.args.sections.now);
    }

pub loop-left-preserved : goal.loop-left-preserved
loop-left-preserved c =
    let l = c.loop-left in
    let less = c.in_ok-left.ensures {u = tt} in
    record {
      within = omega (arith, less, l.invariant.within);
      laid = slots_then (c.args.count - l.left) c.in_ok-slots.slots
          (c.args.count - c.in_ok-left.left) c.args.bytes.now l.rest.now c.in_ok-slots.after.now
          c.args.sections.now l.sections c.lay_constant.new.sections
          (omega (arith, less, l.invariant.within)) l.invariant.laid c.in_ok-slots.ensures.laid;
    }

pub returns : goal.returns
returns c =
    let all : c.args.count - c.loop-left.left ≡ c.args.count =
    omega (arith, c.loop-left-test.false) in
    subst
    (λ n. LaysSlots n c.args.bytes.now c.args.sections.now c.loop-left.sections
    c.loop-left.rest.now) all c.loop-left.invariant.laid
