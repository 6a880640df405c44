use Rattle.std.proofs.Common.{ap, sym, ◌∙◌}
use Rattle.std.proofs.lemmas.List.{drop_all}
use Rattle.cm_descriptors.specs.Marks.{marks_of, both_marks}
use Rattle.cm_descriptors.proofs.MarksOf.{nothing_both, both_nothing, one_byte}
use Rattle.cm_descriptors.proofs.marks.marks_of_few.Goals as goal

pub loop-byte-init : goal.loop-byte-init
loop-byte-init c = nothing_both (marks_of c.args.bytes.now)

pub loop-byte-preserved : goal.loop-byte-preserved
loop-byte-preserved c =
    rw (c.and-marks.ensures, c.marks_of_byte.ensures)
    (one_byte c.loop-byte.marks c.args.bytes.now c.loop-byte.byte-index c.loop-byte-test.true ∙
    c.loop-byte.invariant)

pub returns : goal.returns
returns c =
    let rest = drop_all c.loop-byte.byte-index c.args.bytes.now c.loop-byte-test.false in
    sym (both_nothing c.loop-byte.marks) ∙ ap (λ xs. both_marks c.loop-byte.marks (marks_of xs))
    (sym rest) ∙ c.loop-byte.invariant
