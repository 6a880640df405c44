use Rattle.std.proofs.Common.{◌≡◌, ◌∙◌, ◌+◌, ap, sym, ◌++◌, ◌∷◌, [], drop, get_or, length}
use Rattle.std.proofs.Common.{append_assoc, arith}
use Rattle.std.proofs.lemmas.List.{get_or-take}
use Rattle.cm_record_layout.specs.Packing.{packed, word_from}
use Rattle.cm_record_layout.proofs.{packed_more, word_same}
use Rattle.cm_words.specs.Words.{Words}
use Rattle.cm_record_laying.proofs.Steps.{room_left}
use Rattle.cm_record_laying.proofs.runs.push_eights.Goals as goal

pub loop-eight-preserved : goal.loop-eight-preserved
loop-eight-preserved c =
    let words = c.loop-eight.words.words in
    let rest = c.loop-eight.rest.now in
    let behind = c.in-Some.behind.now in
    let parts = c.in-Some.ensures.cases in
    let enough : length behind + 8 ≡ length rest = parts.2 in
    let word_is : c.from_le_bytes.result ≡ word_from rest =
    c.from_le_bytes.ensures ∙ word_same c.in-Some.eight.now rest (λ k lt. ap
    (λ xs. get_or xs k 0) parts.0 ∙ get_or-take 8 rest k 0 lt) in
    let more : packed rest ≡ word_from rest ∷ packed (drop 8 rest) =
    packed_more rest 8 (omega (arith, enough)) (omega (arith, enough)) in
    let added = ap (λ (w : Words). w.words ++ packed behind) c.push.ensures
    ∙ append_assoc words (c.from_le_bytes.result ∷ []) (packed behind)
    ∙ (λ i. words ++ word_is i ∷ packed (parts.1 i))
    ∙ ap (λ xs. words ++ xs) (sym more)
    ∙ c.loop-eight.invariant.added in
    record {
      added = added;
      capacity = ap (λ (w : Words). w.capacity) c.push.ensures
          ∙ c.loop-eight.invariant.capacity;
    }

pub push-requires : goal.push-requires
push-requires c =
    let l = c.loop-eight in
    let rest = l.rest.now in
    let enough : length c.in-Some.behind.now + 8 ≡ length rest = c.in-Some.ensures.cases.2 in
    omega (
      arith,
      room_left l.words.words (packed rest) c.args.words.now.words (packed c.args.bytes.now)
          l.words.capacity c.args.words.now.capacity l.invariant.added l.invariant.capacity
          c.requires,
      ap length (packed_more rest 8 (omega (arith, enough)) (omega (arith, enough))),
    )
