use Rattle.std.proofs.Common.{true, sym, ◌∙◌}
use Rattle.cm_descriptors.specs.Forms.{is_class_name, is_class_name_from, name_after}
use Rattle.cm_descriptors.proofs.FormLoops.{refuses, goes_on, at_end, class_name_next}
use Rattle.cm_descriptors.proofs.FormLoops.{class_name_end}
use Rattle.cm_descriptors.proofs.names.are_joined_names.Goals as goal

pub returns-in-None : goal.returns-in-None
unfolding is_class_name
returns-in-None c =
    refuses name_after is_class_name_from class_name_next c.args.bytes.now c.loop-byte.byte-index
    c.loop-byte.begins (is_class_name_from true c.args.bytes.now) c.loop-byte-test.true
    c.in-None.ensures c.loop-byte.invariant

pub loop-byte-preserved : goal.loop-byte-preserved
loop-byte-preserved c =
    goes_on name_after is_class_name_from class_name_next c.args.bytes.now c.loop-byte.byte-index
    c.loop-byte.begins c.in-Some.after (is_class_name_from true c.args.bytes.now)
    c.loop-byte-test.true c.in-Some.ensures c.loop-byte.invariant

pub returns : goal.returns
unfolding is_class_name
returns c = sym (class_name_end c.loop-byte.begins) ∙ at_end name_after is_class_name_from
    class_name_next c.args.bytes.now c.loop-byte.byte-index c.loop-byte.begins
    (is_class_name_from true c.args.bytes.now) c.loop-byte-test.false c.loop-byte.invariant
