use Rattle.std.proofs.Common.{◌∙◌, length, ap, arith}
use Rattle.cm_words.specs.Places.{somes}
use Rattle.cm_words.proofs.Filled.{length-filled}
use Rattle.cm_words.proofs.word_buf.WordBuf.drop.Goals as goal

pub deallocate-requires : goal.deallocate-requires
deallocate-requires c =
    let b = c.self.inside in
    let h = c.self.invariant in
    let size =
    ap length h.laid ∙ length-filled (somes b.cells.slots) b.capacity
    (omega (arith, h.count, h.room)) in
    (h.place, size, h.deed_place, h.deed_len, h.deed_alloc)
