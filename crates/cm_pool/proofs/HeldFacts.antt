-- Chunks stay held while others are taken and given back.
-- On `FreeSpace`, `AreHeld`, `IsUsedChunk`.
use Rattle.std.proofs.Common.{List, [], ◌∷◌, ◌++◌, refl, sym, subst, inl, inr, arith}
use Rattle.std.specs.List.{AllByRecursion}
use Rattle.std.proofs.lemmas.List.{append-nil}
use Rattle.cm_pool.specs.declared.chunk.Chunk.{Chunk}
use Rattle.cm_pool.specs.Chunks.{Meets}
use Rattle.cm_pool.specs.FreeSpace.{FreeSpace, IsFreeChunk, IsUsedChunk, without, with_chunk}
use Rattle.cm_pool.specs.FreeSpace.{with_root}
use Rattle.cm_pool.specs.Lists.{Pairwise}
use Rattle.cm_pool.specs.Held.{AreHeld}
use Rattle.cm_pool.proofs.Lists.{each-weaker, each-join, each-front, each-back, pairs-insert}
use Rattle.cm_pool.proofs.Lists.{pairs-remove, pairs-before, pairs-behind}
use Rattle.cm_pool.proofs.FreeWords.{used-without, used-elsewhere, free-apart, free-with_chunk}
use Rattle.cm_pool.proofs.FreeWords.{free-with_root}

abbrev Apart : Chunk → Chunk → Type 0
Apart a b = ¬ Meets a b

turned : (a b : Chunk) → Apart a b → Apart b a
turned a b h meets = h (meets.0, meets.1, meets.3, meets.2)

-- what shares no word with a chunk that is given back stays used
pub used-beside : (p : FreeSpace) (c d : Chunk) → IsUsedChunk p c → IsUsedChunk p d → ¬ Meets c d
    → IsUsedChunk (with_chunk p c) d
used-beside p c d given h apart =
    record {
      block = h.block;
      words = λ word low high free.
          elim ((free-with_chunk p c d.root word given.block.inside).0 free) [
            | inl before ↦ h.words word low high before
            | inr covers ↦ apart (
              d.root,
              word,
              covers,
              record { same_root = refl; from = low; to = high },
            )
          ];
    }

-- what is in the roots before a new one stays used
pub used-with_root : (p : FreeSpace) (d : Chunk) → IsUsedChunk p d → IsUsedChunk (with_root p) d
used-with_root p d h =
    record {
      block = record {
        within_top = h.block.within_top;
        in_a_root = omega (arith, h.block.in_a_root);
        aligned = h.block.aligned;
        inside =
            h.block.inside;
      };
      words = λ word low high free.
          elim ((free-with_root p d.root word).0 free) [
            | inl before ↦ h.words word low high before
            | inr (same, within) ↦ absurd (omega (arith, h.block.in_a_root))
          ];
    }

pub held-taken : (p : FreeSpace) (cs : List Chunk) (c : Chunk) → AreHeld p cs → IsFreeChunk p c
    → AreHeld (without p c) (cs ++ c ∷ [])
held-taken p cs c h free =
    record {
      each = each-join (IsUsedChunk (without p c)) cs (c ∷ [])
          (each-weaker (IsUsedChunk p) (IsUsedChunk (without p c))
          (λ d used. used-elsewhere p c d free used) cs h.each) (used-without p c free, tt);
      apart = pairs-insert Apart cs c [] (subst
          (λ (ds : List Chunk). Pairwise Apart ds) (sym (append-nil cs)) h.apart)
          (each-weaker (IsUsedChunk p) (λ d. Apart d c)
          (λ d used. turned c d (free-apart p c d free used)) cs h.each) tt;
    }

-- what is known of each element of a list and of how it relates to c
both : (p : FreeSpace) (c : Chunk) (cs : List Chunk) → IsUsedChunk p c
    → AllByRecursion (IsUsedChunk p) cs → AllByRecursion (λ d. Apart c d) cs
    → AllByRecursion (IsUsedChunk (with_chunk p c)) cs
both p c [] given used apart = tt
both p c (d ∷ ds) given used apart =
    (used-beside p c d given used.0 apart.0, both p c ds given used.1 apart.1)

pub held-given : (p : FreeSpace) (xs : List Chunk) (c : Chunk) (ys : List Chunk)
    → AreHeld p (xs ++ c ∷ ys) → IsUsedChunk p c × AreHeld (with_chunk p c) (xs ++ ys)
held-given p xs c ys h =
    let used_front = each-front (IsUsedChunk p) xs (c ∷ ys) h.each in
    let used_back = each-back (IsUsedChunk p) xs (c ∷ ys) h.each in (
      used_back.0,
      record {
        each = each-join (IsUsedChunk (with_chunk p c)) xs ys
            (both p c xs used_back.0 used_front (each-weaker (λ d. Apart d c) (λ d. Apart c d)
            (λ d a. turned d c a) xs (pairs-before Apart xs c ys h.apart)))
            (both p c ys used_back.0 used_back.1 (pairs-behind Apart xs c ys h.apart));
        apart = pairs-remove Apart xs c ys h.apart;
      },
    )

pub held-with_root : (p : FreeSpace) (cs : List Chunk) → AreHeld p cs → AreHeld (with_root p) cs
held-with_root p cs h =
    record {
      each = each-weaker (IsUsedChunk p) (IsUsedChunk (with_root p)) (used-with_root p) cs
          h.each;
      apart = h.apart;
    }

-- a free chunk that is taken is held from then on, wherever it is inserted
pub held-put : (p : FreeSpace) (xs : List Chunk) (c : Chunk) (ys : List Chunk)
    → AreHeld p (xs ++ ys) → IsFreeChunk p c → AreHeld (without p c) (xs ++ c ∷ ys)
held-put p xs c ys h free =
    let stays : (d : Chunk) → IsUsedChunk p d
    → IsUsedChunk (without p c) d = λ d used. used-elsewhere p c d free used in
    let front = each-front (IsUsedChunk p) xs ys h.each in
    let back = each-back (IsUsedChunk p) xs ys h.each in
    record {
      each = each-join (IsUsedChunk (without p c)) xs (c ∷ ys)
          (each-weaker (IsUsedChunk p) (IsUsedChunk (without p c)) stays xs front) (
            used-without p c free,
            each-weaker (IsUsedChunk p) (IsUsedChunk (without p c))
                stays ys back,
          );
      apart = pairs-insert Apart xs c ys h.apart
          (each-weaker (IsUsedChunk p) (λ d. Apart d c)
          (λ d used. turned c d (free-apart p c d free used)) xs front)
          (each-weaker (IsUsedChunk p) (Apart c) (λ d used. free-apart p c d free used) ys back);
    }
