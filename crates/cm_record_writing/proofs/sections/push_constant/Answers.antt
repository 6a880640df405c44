use Rattle.std.proofs.Common.{ap, length, arith}
use Rattle.cm_record_layout.proofs.{packed_len}
use Rattle.cm_record_writing.proofs.sections.push_constant.Goals as goal

pub utf8_word-requires : goal.utf8_word-requires
utf8_word-requires c =
    let here = rw c.in-Utf8.is at c.requires.short in
    let same = ap length c.as_slice.ensures in
    omega (arith, here, same, packed_len c.in-Utf8.bytes)
