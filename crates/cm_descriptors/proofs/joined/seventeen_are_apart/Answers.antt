use Rattle.std.proofs.Common.{◌+◌, refl, arith}
use Rattle.std.proofs.lemmas.Simd.{length-chunk, zip2_splat}
use Rattle.cm_descriptors.proofs.JoinedNames.{none_both}
use lib.Lanes.{chunk}
use Rattle.cm_descriptors.proofs.joined.seventeen_are_apart.Goals as goal

pub returns : goal.returns
returns c =
    let d = c.args.bytes.now in
    let at = c.args.at in
    none_both _ refl refl refl refl 16 (omega arith) d at c.requires
    (zip2_splat _ (chunk at 16 d) 16 47 (length-chunk at 16 d (omega (arith, c.requires))))
    (zip2_splat _ (chunk (at + 1) 16 d) 16 47
    (length-chunk (at + 1) 16 d (omega (arith, c.requires))))
