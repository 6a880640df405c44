use Rattle.std.proofs.Common.{◌∙◌}
use Rattle.cm_record_layout.proofs.Packed.{word_same}
use Rattle.cm_record_layout.proofs.packing.word_of.Goals as goal

pub returns : goal.returns
returns c =
    c.from_le_bytes.ensures ∙ word_same c.first_eight.result c.args.bytes.now c.first_eight.ensures
