use Rattle.std.proofs.Common.{◌≡◌, ◌∙◌, length, map, take, Some, sym, ap, arith}
use Rattle.cm_words.specs.Places.{somes}
use Rattle.cm_words.specs.Words.{Words}
use Rattle.cm_words.proofs.Filled.{length-filled, take-filled, same_values}
use Rattle.cm_words.proofs.word_buf.WordBuf.as_slice.Goals as goal

pub slice-requires : goal.slice-requires
slice-requires c =
    let b = c.self.inside in
    let h = c.self.invariant in
    let words = somes b.cells.slots in
    let size =
    ap length h.laid ∙ length-filled words b.capacity (omega (arith, h.count, h.room)) in (
      sym h.place,
      (
        omega (arith, size, h.room),
        (
          words,
          ap
              (λ n. take n b.cells.slots) h.count
              ∙ (ap (take (length words)) h.laid ∙ take-filled words b.capacity),
        ),
      ),
    )

pub returns : goal.returns
returns c =
    let b = c.self.inside in
    let h = c.self.invariant in
    let words = somes b.cells.slots in
    let all : take b.len b.cells.slots ≡ map Some words = ap
    (λ n. take n b.cells.slots) h.count
    ∙ (ap (take (length words)) h.laid ∙ take-filled words b.capacity) in
    same_values c.slice.result.now words (sym c.slice.ensures ∙ all) ∙ ap
    (λ (w : Words). w.words) c.self.view_is
