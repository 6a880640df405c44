use Rattle.std.proofs.Common.{◌+◌, ◌<◌, length, refl, arith}
use Rattle.cm_rules.specs.Kept.{constant_keeps}
use Rattle.cm_record_rules.proofs.Slots.{one_more, all_of}
use Rattle.cm_record_rules.proofs.constants.constants_keep.Goals as goal

pub loop-index-preserved : goal.loop-index-preserved
loop-index-preserved c =
    let lt : c.loop-index.index < length c.args.class.now.slots =
    omega (arith, c.loop-index-test.true, c.last_index-last.ensures) in
    record {
      within = omega arith;
      so_far = one_more (constant_keeps c.args.class.now) c.args.class.now c.loop-index.index
          (c.loop-index.index + 1) refl lt
          (c.is_kept_at.ensures c.if-not-is_kept_at.false) c.loop-index.invariant.so_far;
    }

pub returns : goal.returns
returns c = λ _.
    all_of (constant_keeps c.args.class.now) c.args.class.now c.loop-index.index
    (omega (arith, c.loop-index-test.false, c.last_index-last.ensures))
    c.loop-index.invariant.so_far
