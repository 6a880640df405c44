use Rattle.std.proofs.Common.{sym, ap, ◌∙◌}
use Rattle.cm_verdict.specs.Decoding.{sizes_in}
use Rattle.cm_verdict.proofs.Decoded.{none_is, sizes_spelled, sizes_again}
use Rattle.cm_verdict.proofs.superblock.sizes_in.Goals as goal

pub returns-in_err-superblock : goal.returns-in_err-superblock
returns-in_err-superblock c =
    c.from_residual.ensures
    ∙ none_is (sizes_in c.args.block.now) (λ g there.
    let s = sizes_spelled c.args.block.now g there in
    let only = c.in_err-superblock.ensures {u = tt} in only.only g s.1 s.0)

pub returns : goal.returns
returns c =
    let found = c.in_ok-superblock.ensures.found in
    sym (ap sizes_in found ∙ sizes_again c.in_ok-superblock.superblock.geometry
    c.invariant_holds.ensures)
