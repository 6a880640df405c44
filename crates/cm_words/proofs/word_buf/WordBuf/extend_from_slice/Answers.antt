use Rattle.std.proofs.Common.{◌≡◌, ◌∙◌, ◌+◌, ◌≤◌, ◌++◌, length, map, take, drop, Some, sym, ap}
use Rattle.std.proofs.Common.{arith, length-append}
use Rattle.cm_words.specs.Places.{somes, filled}
use Rattle.cm_words.specs.Words.{Words, words_of}
use Rattle.cm_words.proofs.Filled.{length-filled, filled_behind, somes-filled}
use Rattle.cm_words.proofs.word_buf.WordBuf.extend_from_slice.Goals as goal

pub write_all-requires-clause-within : goal.write_all-requires-clause-within
write_all-requires-clause-within c =
    let b = c.self.inside in
    let h = c.self.invariant in
    let size =
    ap length h.laid ∙ length-filled (somes b.cells.slots) b.capacity
    (omega (arith, h.count, h.room)) in
    omega (
      arith,
      size,
      h.count,
      ap (λ (w : Words). length w.words) c.self.view_is,
      ap
          (λ (w : Words). w.capacity) c.self.view_is,
      c.requires,
    )

pub invariant_of-self : goal.invariant_of-self
invariant_of-self c =
    let b = c.self.inside in
    let h = c.self.invariant in
    let words = somes b.cells.slots in
    let more = c.args.words.now in
    let after = words ++ more in
    let few : length words + length more ≤ b.capacity = omega (
      arith,
      ap
          (λ (w : Words). length w.words) c.self.view_is,
      ap
          (λ (w : Words). w.capacity) c.self.view_is,
      c.requires,
    ) in
    let laid : c.write_all.new.self.slots ≡ filled after b.capacity =
    c.write_all.ensures.slots
    ∙ ((λ i. take (h.count i) (h.laid i) ++ map Some more
    ++ drop (h.count i + length more) (h.laid i))
    ∙ filled_behind words more b.capacity few) in
    let kept : somes c.write_all.new.self.slots ≡ after =
    ap somes laid ∙ somes-filled after b.capacity in
    record {
      place = c.write_all.ensures.place ∙ h.place;
      deed_place = h.deed_place;
      deed_len = h.deed_len;
      deed_alloc = h.deed_alloc;
      count = omega (arith, h.count, ap length kept, length-append words more);
      room = omega (arith, h.count, few);
      small = h.small;
      laid = laid ∙ ap (λ l. filled l b.capacity) (sym kept);
    }

pub returns : goal.returns
returns c =
    let b = c.self.inside in
    let h = c.self.invariant in
    let words = somes b.cells.slots in
    let more = c.args.words.now in
    let after = words ++ more in
    let few : length words + length more ≤ b.capacity = omega (
      arith,
      ap
          (λ (w : Words). length w.words) c.self.view_is,
      ap
          (λ (w : Words). w.capacity) c.self.view_is,
      c.requires,
    ) in
    let laid : c.write_all.new.self.slots ≡ filled after b.capacity =
    c.write_all.ensures.slots
    ∙ ((λ i. take (h.count i) (h.laid i) ++ map Some more
    ++ drop (h.count i + length more) (h.laid i))
    ∙ filled_behind words more b.capacity few) in
    let kept : somes c.write_all.new.self.slots ≡ after =
    ap somes laid ∙ somes-filled after b.capacity in
    ap (λ l. words_of l b.capacity) kept ∙ ap
    (λ (w : Words). words_of (w.words ++ more) w.capacity) c.self.view_is
