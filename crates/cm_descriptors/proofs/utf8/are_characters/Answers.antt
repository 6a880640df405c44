use Rattle.std.proofs.Common.{sym, ◌∙◌}
use Rattle.cm_descriptors.specs.Forms.{has_utf8_form, has_utf8_form_after, owed_after}
use Rattle.cm_descriptors.proofs.FormLoops.{refuses, goes_on, at_end, utf8_next, utf8_end}
use Rattle.cm_descriptors.proofs.utf8.are_characters.Goals as goal

pub returns-in-None : goal.returns-in-None
unfolding has_utf8_form
returns-in-None c =
    refuses owed_after has_utf8_form_after utf8_next c.args.bytes.now c.loop-byte.byte-index
    c.loop-byte.owed (has_utf8_form_after 0 c.args.bytes.now) c.loop-byte-test.true
    c.in-None.ensures c.loop-byte.invariant

pub loop-byte-preserved : goal.loop-byte-preserved
loop-byte-preserved c =
    goes_on owed_after has_utf8_form_after utf8_next c.args.bytes.now c.loop-byte.byte-index
    c.loop-byte.owed c.in-Some.after (has_utf8_form_after 0 c.args.bytes.now) c.loop-byte-test.true
    c.in-Some.ensures c.loop-byte.invariant

pub returns : goal.returns
unfolding has_utf8_form
returns c = sym (utf8_end c.loop-byte.owed) ∙ at_end owed_after has_utf8_form_after utf8_next
    c.args.bytes.now c.loop-byte.byte-index c.loop-byte.owed
    (has_utf8_form_after 0 c.args.bytes.now) c.loop-byte-test.false c.loop-byte.invariant
