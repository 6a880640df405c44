use Rattle.std.proofs.Common.{sym, true}
use Rattle.cm_rules.specs.Kept.{constant_keeps}
use Rattle.cm_record_rules.proofs.Slots.{text_keeps}
use Rattle.cm_record_rules.proofs.Whole.{utf8_test}
use Rattle.cm_record_rules.proofs.constants.is_kept_at.Goals as goal

pub returns-then-tag-eq-UTF8_TAG : goal.returns-then-tag-eq-UTF8_TAG
returns-then-tag-eq-UTF8_TAG c = λ _.
    let class = c.args.class.now in
    sym (utf8_test (constant_keeps class) (λ _. true) (text_keeps class) class c.args.index
    c.tag.result c.tag.ensures c.if-tag-eq-UTF8_TAG.true)
