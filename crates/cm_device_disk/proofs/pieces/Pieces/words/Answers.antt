use Rattle.std.proofs.Common.{◌∙◌, ◌/◌, ap, length, arith, length-append}
use Rattle.cm_words.specs.Words.{Words}
use Rattle.cm_words.specs.Bytes.{packed_into}
use Rattle.cm_words.proofs.{length-packed_into}
use Rattle.cm_device_disk.proofs.pieces.Pieces.words.Goals as goal

pub loop-range-preserved : goal.loop-range-preserved
loop-range-preserved g c =
    let l = c.loop-range in
    let part = c.front.result.now in
    let words = ap (λ (w : Words). length w.words) c.extend_from_bytes.ensures
    ∙ length-append l.words.words (packed_into (length part / 8) part) in
    record {
      capacity = ap (λ (w : Words). w.capacity) c.extend_from_bytes.ensures ∙ l.invariant.capacity;
      few = omega (
        arith,
        words,
        length-packed_into (length part / 8) part,
        c.front.ensures,
        l.invariant.few,
        l.invariant.capacity,
        c.room-in-loop-range.ensures,
        c.min-count.ensures,
      );
    }
