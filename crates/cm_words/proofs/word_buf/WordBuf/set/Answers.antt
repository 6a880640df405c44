use Rattle.std.proofs.Common.{◌≡◌, ◌∙◌, ◌<◌, length, set, Some, sym, ap, arith, length-set}
use Rattle.cm_words.specs.Places.{somes, filled}
use Rattle.cm_words.specs.Words.{Words, words_of}
use Rattle.cm_words.proofs.Filled.{length-filled, set-filled, somes-filled}
use Rattle.cm_words.proofs.word_buf.WordBuf.set.Goals as goal

pub write-requires : goal.write-requires
write-requires c =
    let b = c.self.inside in
    let h = c.self.invariant in
    let size =
    ap length h.laid ∙ length-filled (somes b.cells.slots) b.capacity
    (omega (arith, h.count, h.room)) in
    let there : c.args.at < length (somes b.cells.slots) = omega (
      arith,
      ap
          (λ (w : Words). length w.words) c.self.view_is,
      c.requires,
    ) in
    (sym h.place, omega (arith, size, h.count, h.room, there))

pub invariant_of-self : goal.invariant_of-self
invariant_of-self c =
    let b = c.self.inside in
    let h = c.self.invariant in
    let words = somes b.cells.slots in
    let after = set words c.args.at c.args.word in
    let there : c.args.at < length words = omega (
      arith,
      ap
          (λ (w : Words). length w.words) c.self.view_is,
      c.requires,
    ) in
    let laid : c.write.new.self.slots ≡ filled after b.capacity =
    c.write.ensures.1 ∙ (ap
    (λ l. set l c.args.at (Some c.args.word)) h.laid
    ∙ set-filled words b.capacity c.args.at c.args.word there (omega (arith, h.count, h.room))) in
    let kept : somes c.write.new.self.slots ≡ after =
    ap somes laid ∙ somes-filled after b.capacity in
    record {
      place = c.write.ensures.0 ∙ h.place;
      deed_place = h.deed_place;
      deed_len = h.deed_len;
      deed_alloc = h.deed_alloc;
      count = omega (arith, h.count, ap length kept, length-set words c.args.at c.args.word);
      room = h.room;
      small = h.small;
      laid = laid ∙ ap (λ l. filled l b.capacity) (sym kept);
    }

pub returns : goal.returns
returns c =
    let b = c.self.inside in
    let h = c.self.invariant in
    let words = somes b.cells.slots in
    let after = set words c.args.at c.args.word in
    let there : c.args.at < length words = omega (
      arith,
      ap
          (λ (w : Words). length w.words) c.self.view_is,
      c.requires,
    ) in
    let laid : c.write.new.self.slots ≡ filled after b.capacity =
    c.write.ensures.1 ∙ (ap
    (λ l. set l c.args.at (Some c.args.word)) h.laid
    ∙ set-filled words b.capacity c.args.at c.args.word there (omega (arith, h.count, h.room))) in
    ap (λ l. words_of l b.capacity) (ap somes laid ∙ somes-filled after b.capacity) ∙ ap
    (λ (w : Words). words_of (set w.words c.args.at c.args.word) w.capacity) c.self.view_is
