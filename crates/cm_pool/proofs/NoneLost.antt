-- No word is lost if chunks are taken and given back, and roots added.
-- On `NoneIsLost`, `FreeSpace`, `without`, for crates above.
use Rattle.std.proofs.Common.{◌≡◌, ℕ, ◌+◌, ◌<◌, ◌≤◌, true, false, List, [], ◌∷◌, ◌++◌, refl, subst}
use Rattle.std.proofs.Common.{inl, inr, ◌⊎◌, arith}
use Rattle.std.specs.FinSet.{contains}
use Rattle.std.proofs.lemmas.Bool.{cases_lt, both_ways}
use Rattle.cm_pool.specs.declared.chunk.Chunk.{Chunk}
use Rattle.cm_pool.specs.Chunks.{chunk_size, Covers}
use Rattle.cm_pool.specs.FreeSpace.{FreeSpace, IsFreeChunk, IsUsedChunk, word_number, words}
use Rattle.cm_pool.specs.FreeSpace.{without, with_chunk, with_root}
use Rattle.cm_pool.specs.Lists.{Among}
use Rattle.cm_pool.specs.Held.{NoneIsLost}
use Rattle.cm_pool.proofs.FreeWords.{words-covers, free-without, free-with_chunk, free-with_root}

among-put : (xs : List Chunk) (c : Chunk) (ys : List Chunk) (d : Chunk) → Among d (xs ++ ys)
    → Among d (xs ++ c ∷ ys)
among-put [] c ys d m = inr m
among-put (x ∷ xs) c ys d (inl e) = inl e
among-put (x ∷ xs) c ys d (inr m) = inr (among-put xs c ys d m)

among-here : (xs : List Chunk) (c : Chunk) (ys : List Chunk) → Among c (xs ++ c ∷ ys)
among-here [] c ys = inl refl
among-here (x ∷ xs) c ys = inr (among-here xs c ys)

among-without : (xs : List Chunk) (c : Chunk) (ys : List Chunk) (d : Chunk)
    → Among d (xs ++ c ∷ ys) → (d ≡ c) ⊎ Among d (xs ++ ys)
among-without [] c ys d m = m
among-without (x ∷ xs) c ys d (inl e) = inr (inl e)
among-without (x ∷ xs) c ys d (inr m) =
    elim (among-without xs c ys d m) [ inl e ↦ inl e | inr n ↦ inr (inr n) ]

-- a word is in the chunk, or it isn't
covers-or_not : (p : FreeSpace) (c : Chunk) (root word : ℕ)
    → c.at + chunk_size c.order ≤ chunk_size p.geometry.top → word < chunk_size p.geometry.top
    → Covers c root word ⊎ (¬ Covers c root word)
covers-or_not p c root word inside within =
    let decides = words-covers p.geometry.top c root word inside within in
    let n = word_number p.geometry.top root word in
    elim (contains (words p.geometry.top c) n) as (λ b. contains (words p.geometry.top c) n ≡ b
    → Covers c root word ⊎ (¬ Covers c root word)) [
      | true ↦ λ e. inl (decides.0 e)
      | false ↦ λ e. inr (λ covers. both_ways _ e (decides.1 covers))
    ] refl

pub none_lost-put : (p : FreeSpace) (xs : List Chunk) (c : Chunk) (ys : List Chunk)
    → NoneIsLost p (xs ++ ys) → IsFreeChunk p c → NoneIsLost (without p c) (xs ++ c ∷ ys)
none_lost-put p xs c ys h free =
    record {
      each = λ root word present within.
          elim (h.each root word present within) [
            | inl was ↦
                elim (covers-or_not p c root word free.block.inside within) [
                  | inl covers ↦ inr (c, among-here xs c ys, covers)
                  | inr other ↦ inl ((free-without p c root word free.block.inside).1 (was, other))
                ]
            | inr held ↦ inr (held.0, among-put xs c ys held.0 held.1, held.2)
          ];
    }

pub none_lost-given : (p : FreeSpace) (xs : List Chunk) (c : Chunk) (ys : List Chunk)
    → NoneIsLost p (xs ++ c ∷ ys) → IsUsedChunk p c → NoneIsLost (with_chunk p c) (xs ++ ys)
none_lost-given p xs c ys h used =
    record {
      each = λ root word present within.
          elim (h.each root word present within) [
            | inl was ↦ inl ((free-with_chunk p c root word used.block.inside).1 (inl was))
            | inr held ↦
                elim (among-without xs c ys held.0 held.1) [
                  | inl e ↦ inl ((free-with_chunk p c root word used.block.inside).1 (inr (subst
                      (λ d. Covers d root word) e held.2)))
                  | inr m ↦ inr (held.0, m, held.2)
                ]
          ];
    }

pub none_lost-with_root : (p : FreeSpace) (cs : List Chunk) → NoneIsLost p cs
    → NoneIsLost (with_root p) cs
none_lost-with_root p cs h =
    record {
      each = λ root word present within.
          elim (cases_lt root p.roots) [
            | inl before ↦
                elim (h.each root word before within) [
                  | inl was ↦ inl ((free-with_root p root word).1 (inl was))
                  | inr held ↦ inr held
                ]
            | inr new ↦ inl ((free-with_root p root word).1 (inr (omega arith, within)))
          ];
    }
