use Rattle.std.proofs.Common.{◌≡◌, ◌≤◌, ◌*◌, ◌-◌, ◌+◌, length, take, drop, ap, sym, ◌∙◌, arith}
use Rattle.cm_descriptors.specs.Marks.{marks_of, both_marks}
use Rattle.cm_descriptors.proofs.MarksOf.{both_nothing, both_comm, last_bytes, more_bytes}
use Rattle.cm_descriptors.proofs.MarksOf.{covered_marks}
use Rattle.cm_descriptors.proofs.marks.marks_of_many.Goals as goal

pub loop-place-init : goal.loop-place-init
loop-place-init c =
    c.marks_of_sixteen-marks.ensures ∙ ap marks_of (last_bytes c.args.bytes.now 16 c.requires) ∙ sym
    (both_nothing _)

pub loop-place-preserved : goal.loop-place-preserved
loop-place-preserved c =
    let more : 16 * c.loop-place.place + 16 ≡ 16 * (c.loop-place.place + 1) = omega arith in
    rw (c.and-marks.ensures, c.marks_of_sixteen.ensures, c.loop-place.invariant)
    (more_bytes (marks_of (drop (length c.args.bytes.now - 16) c.args.bytes.now)) c.args.bytes.now
    (16 * c.loop-place.place) 16
    ∙ ap (λ k. both_marks (marks_of (drop (length c.args.bytes.now - 16) c.args.bytes.now))
    (marks_of (take k c.args.bytes.now))) more)

pub returns : goal.returns
returns c =
    let reached : length c.args.bytes.now - 16 ≤ 16 * c.loop-place.place =
    omega (arith, c.loop-place-test.false, c.requires) in
    c.loop-place.invariant ∙ both_comm _ _ ∙ covered_marks c.args.bytes.now
    (16 * c.loop-place.place) (length c.args.bytes.now - 16) reached
