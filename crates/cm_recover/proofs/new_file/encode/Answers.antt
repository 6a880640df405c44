use Rattle.std.proofs.Common.{◌++◌, ◌∙◌, ap, length, arith}
use Rattle.cm_recover.proofs.Empty.{put_together}
use Rattle.cm_recover.proofs.new_file.encode.Goals as goal

pub returns : goal.returns
returns c =
    put_together c.args.geometry c.requires c.roots_at.result c.extend_from_slice.new.self.len
    (length c.encode-2.result)
    c.in_ok-bytes.bytes.items c.extend_from_slice.new.self.items c.resize.new.self.items
    c.in_ok-bytes.ensures
    (c.in_ok-extend_from_slice.ensures.items
    ∙ ap (λ t. c.in_ok-bytes.bytes.items ++ t) c.encode-2.ensures)
    (omega (arith, c.in_ok-extend_from_slice.ensures.len, c.in_ok-bytes.bytes.ok.0))
    (ap length c.encode-2.ensures) c.roots_at.ensures c.in_ok-resize.ensures.items
