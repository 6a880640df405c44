use Rattle.std.proofs.Common.{◌++◌, ◌∙◌, arith}
use Rattle.cm_layout.proofs.Superblocks.{spelled}
use Rattle.cm_layout.proofs.superblock.Superblock.encode.Goals as goal

pub returns : goal.returns
returns c =
    let front =
    c.in_ok-extend_from_slice.ensures.items
    ∙ (λ i. c.in_ok-bytes.ensures.items i ++ c.encode_front.ensures i) in
    spelled _ _ c.extend_from_slice.new.self.items c.resize.new.self.items _ front
    (omega (arith, c.in_ok-extend_from_slice.ensures.len, c.in_ok-bytes.ensures.len))
    c.in_ok-resize.ensures.items c.in_ok-push.ensures.items
