use Rattle.std.proofs.Common.{◌+◌, ◌<◌, ◌∙◌, length, sym, refl, arith}
use Rattle.cm_constraints.specs.Constants.{utf8_has_form}
use Rattle.cm_record_rules.proofs.Slots.{one_more, all_of}
use Rattle.cm_record_rules.proofs.texts.have_form.Goals as goal

pub loop-index-preserved : goal.loop-index-preserved
loop-index-preserved c =
    let lt : c.loop-index.index < length c.args.class.now.slots =
    omega (arith, c.loop-index-test.true, c.last_index-last.ensures) in
    record {
      within = omega arith;
      so_far = one_more utf8_has_form c.args.class.now c.loop-index.index
          (c.loop-index.index + 1) refl lt
          (sym c.has_form_at.ensures ∙ c.if-not-has_form_at.false) c.loop-index.invariant.so_far;
    }

pub returns : goal.returns
returns c = λ _.
    all_of utf8_has_form c.args.class.now c.loop-index.index
    (omega (arith, c.loop-index-test.false, c.last_index-last.ensures))
    c.loop-index.invariant.so_far
