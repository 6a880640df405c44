use Rattle.std.proofs.Common.{◌≡◌, ◌∙◌, ◌/◌, ◌++◌, [], ◌∷◌, ap, get_or, length, arith}
use Rattle.std.proofs.Common.{length-append}
use Rattle.std.proofs.lemmas.List.{get_or-take}
use Rattle.cm_words.specs.Bytes.{packed_into, word_from}
use Rattle.cm_words.specs.Words.{Words}
use Rattle.cm_words.proofs.WordBytes.{pack_on, word_same}
use Rattle.cm_words.proofs.word_buf.WordBuf.extend_from_bytes.Goals as goal

pub loop-eight-preserved : goal.loop-eight-preserved
loop-eight-preserved c =
    let l = c.loop-eight in
    let rest = l.rest.now in
    let after = c.in-Some.after.now in
    let parts = c.in-Some.ensures.cases in
    let word_is : c.from_le_bytes.result ≡ word_from rest =
    c.from_le_bytes.ensures ∙ word_same c.in-Some.eight.now rest (λ k lt. ap
    (λ xs. get_or xs k 0) parts.0 ∙ get_or-take 8 rest k 0 lt) in
    let words = ap (λ (w : Words). w.words) c.push.ensures in
    let capacity = ap (λ (w : Words). w.capacity) c.push.ensures in
    record {
      words = ap (λ xs. xs ++ packed_into (length after / 8) after) words
          ∙ pack_on l.self.words rest after
          (c.args.self.now.words ++ packed_into (length c.args.bytes.now / 8) c.args.bytes.now)
          c.from_le_bytes.result parts.1 parts.2 word_is l.invariant.words;
      capacity = capacity ∙ l.invariant.capacity;
      whole = omega (arith, parts.2, l.invariant.whole);
      room = omega (
        arith,
        parts.2,
        l.invariant.room,
        l.invariant.whole,
        capacity,
        ap length words,
        length-append l.self.words (c.from_le_bytes.result ∷ []),
      );
    }
