use Rattle.std.proofs.Common.{◌≡◌, ◌∙◌, ◌<◌, [], ◌∷◌, ◌++◌, length, set, Some, sym, ap, arith}
use Rattle.std.proofs.Common.{length-append}
use Rattle.cm_words.specs.Places.{somes, filled}
use Rattle.cm_words.specs.Words.{Words, words_of}
use Rattle.cm_words.proofs.Filled.{length-filled, set-filled_next, somes-filled}
use Rattle.cm_words.proofs.word_buf.WordBuf.push.Goals as goal

pub write-requires : goal.write-requires
write-requires c =
    let b = c.self.inside in
    let h = c.self.invariant in
    let size =
    ap length h.laid ∙ length-filled (somes b.cells.slots) b.capacity
    (omega (arith, h.count, h.room)) in
    let more : length (somes b.cells.slots) < b.capacity = omega (
      arith,
      ap
          (λ (w : Words). length w.words) c.self.view_is,
      ap
          (λ (w : Words). w.capacity) c.self.view_is,
      c.requires,
    ) in
    (sym h.place, omega (arith, size, h.count, more))

-- the places after the call
written : goal.invariant_of-self
written c =
    let b = c.self.inside in
    let h = c.self.invariant in
    let words = somes b.cells.slots in
    let after = words ++ c.args.word ∷ [] in
    let more : length words < b.capacity = omega (
      arith,
      ap
          (λ (w : Words). length w.words) c.self.view_is,
      ap
          (λ (w : Words). w.capacity) c.self.view_is,
      c.requires,
    ) in
    let laid : c.write.new.self.slots ≡ filled after b.capacity =
    c.write.ensures.1 ∙ (ap (λ i. set b.cells.slots i (Some c.args.word)) h.count ∙ (ap
    (λ l. set l (length words) (Some c.args.word)) h.laid
    ∙ set-filled_next words b.capacity c.args.word more)) in
    let kept : somes c.write.new.self.slots ≡ after =
    ap somes laid ∙ somes-filled after b.capacity in
    record {
      place = c.write.ensures.0 ∙ h.place;
      deed_place = h.deed_place;
      deed_len = h.deed_len;
      deed_alloc = h.deed_alloc;
      count = omega (arith, h.count, ap length kept, length-append words (c.args.word ∷ []));
      room = omega (arith, h.count, more);
      small = h.small;
      laid = laid ∙ ap (λ l. filled l b.capacity) (sym kept);
    }

pub invariant_of-self : goal.invariant_of-self
invariant_of-self c = written c

pub returns : goal.returns
returns c =
    let b = c.self.inside in
    let h = c.self.invariant in
    let words = somes b.cells.slots in
    let after = words ++ c.args.word ∷ [] in
    let more : length words < b.capacity = omega (
      arith,
      ap
          (λ (w : Words). length w.words) c.self.view_is,
      ap
          (λ (w : Words). w.capacity) c.self.view_is,
      c.requires,
    ) in
    let laid : c.write.new.self.slots ≡ filled after b.capacity =
    c.write.ensures.1 ∙ (ap (λ i. set b.cells.slots i (Some c.args.word)) h.count ∙ (ap
    (λ l. set l (length words) (Some c.args.word)) h.laid
    ∙ set-filled_next words b.capacity c.args.word more)) in
    let kept : somes c.write.new.self.slots ≡ after =
    ap somes laid ∙ somes-filled after b.capacity in
    ap (λ l. words_of l b.capacity) kept ∙ ap
    (λ (w : Words). words_of (w.words ++ c.args.word ∷ []) w.capacity) c.self.view_is
