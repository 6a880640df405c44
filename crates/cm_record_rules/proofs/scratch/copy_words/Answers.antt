use Rattle.std.proofs.Common.{◌∙◌, get_or, refl}
use Rattle.cm_record_rules.proofs.Filled.{write_step}
use Rattle.cm_record_rules.proofs.scratch.copy_words.Goals as goal

pub loop-i-preserved : goal.loop-i-preserved
loop-i-preserved c =
    c.write_word.ensures ∙ write_step c.loop-i.out c.args.out.now c.args.words.now c.loop-i.i
    (get_or c.args.words.now c.loop-i.i 0) c.loop-i.invariant c.loop-i-test.true refl
