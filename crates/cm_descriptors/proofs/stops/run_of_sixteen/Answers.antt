use Rattle.std.proofs.Common.{refl, ◌∙◌, arith}
use Rattle.std.proofs.lemmas.Simd.{length-chunk, zip2_splat}
use Rattle.cm_descriptors.specs.Marks.{is_no_stop}
use Rattle.cm_descriptors.proofs.MarksOf.{joined}
use Rattle.cm_descriptors.proofs.FirstStop.{run_is}
use lib.Lanes.{chunk}
use Rattle.cm_descriptors.proofs.stops.run_of_sixteen.Goals as goal

pub returns : goal.returns
returns c =
    let v = chunk c.args.at 16 c.args.bytes.now in
    let long = length-chunk c.args.at 16 c.args.bytes.now c.requires in
    c.first_set.ensures ∙ run_is is_no_stop c.args.bytes.now c.args.at 16 c.requires (omega arith)
    c.type_inv.bytes _
    (joined _ _ _ v (joined _ _ _ v (zip2_splat _ v 16 46 long) (zip2_splat _ v 16 59 long))
    (zip2_splat _ v 16 91 long)) refl
