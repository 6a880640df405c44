use Rattle.std.proofs.Common.{ltb, cond, refl, arith}
use Rattle.std.proofs.lemmas.Simd.{length-chunk, zip2_splat}
use Rattle.cm_descriptors.specs.Marks.{marks_of, is_plain, is_no_slash, is_no_stop, is_no_angle}
use Rattle.cm_descriptors.proofs.MarksOf.{joined, splat_is, itself, none_set, same_marks}
use lib.Lanes.{chunk}
use Rattle.cm_descriptors.proofs.marks.marks_of_eight.Goals as goal

pub returns : goal.returns
unfolding marks_of
returns c =
    let v = chunk c.args.at 8 c.args.bytes.now in
    let long = length-chunk c.args.at 8 c.args.bytes.now c.requires in
    same_marks
    (none_set is_plain c.args.bytes.now c.args.at 8 c.requires (omega arith) c.type_inv.bytes _
    (joined _ _ _ v (zip2_splat _ v 8 0 long)
    (joined (λ a b. cond (ltb a b) 255 0) _ _ v (splat_is v 8 127 long) (itself v))) refl)
    (none_set is_no_slash c.args.bytes.now c.args.at 8 c.requires (omega arith) c.type_inv.bytes _
    (zip2_splat _ v 8 47 long) refl)
    (none_set is_no_stop c.args.bytes.now c.args.at 8 c.requires (omega arith) c.type_inv.bytes _
    (joined _ _ _ v (joined _ _ _ v (zip2_splat _ v 8 46 long) (zip2_splat _ v 8 59 long))
    (zip2_splat _ v 8 91 long)) refl)
    (none_set is_no_angle c.args.bytes.now c.args.at 8 c.requires (omega arith) c.type_inv.bytes _
    (joined _ _ _ v (zip2_splat _ v 8 60 long) (zip2_splat _ v 8 62 long)) refl)
