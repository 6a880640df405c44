use Rattle.std.proofs.Common.{◌≤◌, ◌-◌, length, ap, ap₂, ◌∙◌, arith}
use Rattle.cm_descriptors.specs.Marks.{marks_of, both_marks}
use Rattle.cm_descriptors.proofs.MarksOf.{last_bytes, covered_marks}
use Rattle.cm_descriptors.proofs.marks.marks_of.Goals as goal

pub returns-then-bytes-ge-HALF_LANES : goal.returns-then-bytes-ge-HALF_LANES
returns-then-bytes-ge-HALF_LANES c =
    let xs = c.args.bytes.now in
    let few : length xs - 8 ≤ 8 = omega (arith, c.if-bytes-ge-LANES.false) in
    c.and.ensures ∙ ap₂ both_marks c.marks_of_eight.ensures
    (c.marks_of_eight-then-bytes-ge-HALF_LANES.ensures ∙ ap marks_of
    (last_bytes xs 8 c.if-bytes-ge-HALF_LANES.true))
    ∙ covered_marks xs 8 (length xs - 8) few
