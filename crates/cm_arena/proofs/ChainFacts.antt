-- Chains from parallel lists of chunks and of used words.
-- For `Arena::adopt`, `Arena::chunks`, `Arena::place` and others.
use Rattle.std.proofs.Common.{◌≡◌, ℕ, zero, suc, ◌+◌, ◌<◌, true, false, cond, List, [], ◌∷◌}
use Rattle.std.proofs.Common.{◌++◌, length, get_or, set, drop, Some, refl, ap, arith}
use Rattle.std.specs.List.{AllByRecursion}
use Rattle.std.proofs.lemmas.List.{drop_more}
use Rattle.cm_pool.specs.declared.chunk.Chunk.{Chunk}
use Rattle.cm_pool.specs.declared.place.Place.{Place}
use Rattle.cm_pool.specs.Chunks.{same_chunk}
use Rattle.cm_arena.specs.Placing.{next_offset, with_place}
use Rattle.cm_arena.specs.Chains.{Filled, chain_chunks, chain_of, last_of, with_more, used_of}
use Rattle.cm_arena.specs.Chains.{IsFilled}

pub chunks-chain_of : (cs : List Chunk) (us : List ℕ) → length cs ≡ length us
    → chain_chunks (chain_of cs us) ≡ cs
chunks-chain_of [] us h = refl
chunks-chain_of (c ∷ cs) [] h = absurd (omega arith)
chunks-chain_of (c ∷ cs) (n ∷ us) h = ap (λ ds. c ∷ ds) (chunks-chain_of cs us (omega arith))

-- the first of the chunks that are left, and the others
pub used_of-drop : (cs : List Chunk) (us : List ℕ) (at : ℕ) (d c : Chunk) (e : ℕ)
    → length cs ≡ length us → at < length cs
    → used_of (chain_of (drop at cs) (drop at us)) c
    ≡ cond (same_chunk (get_or cs at d) c) (Some (get_or us at e))
    (used_of (chain_of (drop (at + 1) cs) (drop (at + 1) us)) c)
used_of-drop cs us at d c e same lt =
    let also : at < length us = omega arith in
    rw (drop_more cs at d lt, drop_more us at e also) refl

-- the last chunk
pub last-chain_of : (cs : List Chunk) (us : List ℕ) (k : ℕ) (d : Chunk) (e : ℕ)
    → length cs ≡ length us → length cs ≡ suc k
    → last_of (chain_of cs us) ≡ Some (record { chunk = get_or cs k d; used = get_or us k e })
last-chain_of [] us k d e same len = absurd (omega arith)
last-chain_of (c ∷ cs) [] k d e same len = absurd (omega arith)
last-chain_of (c ∷ []) (n ∷ us) zero d e same len = single us (omega arith)
  where
    single : (us : List ℕ) → length us ≡ 0
        → last_of (record { chunk = c; used = n } ∷ chain_of [] us)
        ≡ Some (record { chunk = c; used = n })
    single us h = refl
last-chain_of (c ∷ []) (n ∷ us) (suc k) d e same len = absurd (omega arith)
last-chain_of (c ∷ b ∷ cs) (n ∷ []) k d e same len = absurd (omega arith)
last-chain_of (c ∷ b ∷ cs) (n ∷ m ∷ us) zero d e same len = absurd (omega arith)
last-chain_of (c ∷ b ∷ cs) (n ∷ m ∷ us) (suc k) d e same len =
    last-chain_of (b ∷ cs) (m ∷ us) k d e (omega arith) (omega arith)

-- more words of the last chunk
pub more-chain_of : (cs : List Chunk) (us : List ℕ) (k words e : ℕ) → length cs ≡ length us
    → length cs ≡ suc k
    → chain_of cs (set us k (get_or us k e + words)) ≡ with_more (chain_of cs us) words
more-chain_of [] us k words e same len = absurd (omega arith)
more-chain_of (c ∷ cs) [] k words e same len = absurd (omega arith)
more-chain_of (c ∷ []) (n ∷ us) zero words e same len = refl
more-chain_of (c ∷ []) (n ∷ us) (suc k) words e same len = absurd (omega arith)
more-chain_of (c ∷ b ∷ cs) (n ∷ []) k words e same len = absurd (omega arith)
more-chain_of (c ∷ b ∷ cs) (n ∷ m ∷ us) zero words e same len = absurd (omega arith)
more-chain_of (c ∷ b ∷ cs) (n ∷ m ∷ us) (suc k) words e same len =
    ap (λ rest. record { chunk = c; used = n } ∷ rest)
    (more-chain_of (b ∷ cs) (m ∷ us) k words e (omega arith) (omega arith))

pub filled-at : (cs : List Chunk) (us : List ℕ) (k : ℕ) (d : Chunk) (e : ℕ)
    → length cs ≡ length us → k < length cs → AllByRecursion IsFilled (chain_of cs us)
    → IsFilled (record { chunk = get_or cs k d; used = get_or us k e })
filled-at [] us k d e same lt h = absurd (omega arith)
filled-at (c ∷ cs) [] k d e same lt h = absurd (omega arith)
filled-at (c ∷ cs) (n ∷ us) zero d e same lt h = h.0
filled-at (c ∷ cs) (n ∷ us) (suc k) d e same lt h =
    filled-at cs us k d e (omega arith) (omega arith) h.1

pub filled-set : (cs : List Chunk) (us : List ℕ) (k n : ℕ) (d : Chunk) → length cs ≡ length us
    → k < length cs → AllByRecursion IsFilled (chain_of cs us)
    → IsFilled (record { chunk = get_or cs k d; used = n })
    → AllByRecursion IsFilled (chain_of cs (set us k n))
filled-set [] us k n d same lt h new = absurd (omega arith)
filled-set (c ∷ cs) [] k n d same lt h new = absurd (omega arith)
filled-set (c ∷ cs) (m ∷ us) zero n d same lt h new = (new, h.1)
filled-set (c ∷ cs) (m ∷ us) (suc k) n d same lt h new =
    (h.0, filled-set cs us k n d (omega arith) (omega arith) h.1 new)

-- one more chunk
pub chain_of-push : (cs : List Chunk) (us : List ℕ) (c : Chunk) (n : ℕ) → length cs ≡ length us
    → chain_of (cs ++ c ∷ []) (us ++ n ∷ []) ≡ chain_of cs us ++ record { chunk = c; used = n } ∷ []
chain_of-push [] [] c n same = refl
chain_of-push [] (m ∷ us) c n same = absurd (omega arith)
chain_of-push (b ∷ cs) [] c n same = absurd (omega arith)
chain_of-push (b ∷ cs) (m ∷ us) c n same = ap
    (λ rest. record { chunk = b; used = m } ∷ rest) (chain_of-push cs us c n (omega arith))

pub filled-push : (chain : List Filled) (f : Filled) → AllByRecursion IsFilled chain → IsFilled f
    → AllByRecursion IsFilled (chain ++ f ∷ [])
filled-push [] f h new = (new, tt)
filled-push (g ∷ rest) f h new = (h.0, filled-push rest f h.1 new)

pub length-chain_of : (cs : List Chunk) (us : List ℕ) → length cs ≡ length us
    → length (chain_of cs us) ≡ length cs
length-chain_of [] us same = refl
length-chain_of (c ∷ cs) [] same = absurd (omega arith)
length-chain_of (c ∷ cs) (n ∷ us) same = omega (arith, length-chain_of cs us (omega arith))

-- where the next words go, in terms of the last chunk
pub next-chain_of : (cs : List Chunk) (us : List ℕ) (k : ℕ) (d c : Chunk) (e : ℕ)
    → length cs ≡ length us → length cs ≡ suc k
    → next_offset (chain_of cs us) c ≡ cond (same_chunk (get_or cs k d) c) (get_or us k e) 0
next-chain_of [] us k d c e same len = absurd (omega arith)
next-chain_of (b ∷ cs) [] k d c e same len = absurd (omega arith)
next-chain_of (b ∷ []) (n ∷ us) zero d c e same len = refl
next-chain_of (b ∷ []) (n ∷ us) (suc k) d c e same len = absurd (omega arith)
next-chain_of (b ∷ a ∷ cs) (n ∷ []) k d c e same len = absurd (omega arith)
next-chain_of (b ∷ a ∷ cs) (n ∷ m ∷ us) zero d c e same len = absurd (omega arith)
next-chain_of (b ∷ a ∷ cs) (n ∷ m ∷ us) (suc k) d c e same len =
    next-chain_of (a ∷ cs) (m ∷ us) k d c e (omega arith) (omega arith)

-- a place at the front of a chunk is in a new one, as no chunk of a chain is empty
pub place-in_new : (chain : List Filled) (place : Place) → AllByRecursion IsFilled chain
    → next_offset chain place.chunk ≡ 0
    → with_place chain place ≡ chain ++ record { chunk = place.chunk; used = place.words } ∷ []
place-in_new [] place h e = refl
place-in_new (f ∷ []) place h e =
    elim (same_chunk f.chunk place.chunk) as (λ b. cond b f.used 0 ≡ 0
    → cond b (record { chunk = f.chunk; used = f.used + place.words } ∷ [])
    (f ∷ record { chunk = place.chunk; used = place.words } ∷ [])
    ≡ f ∷ record { chunk = place.chunk; used = place.words } ∷ []) [
      | true ↦ λ none. absurd (omega (arith, h.0.some, none))
      | false ↦ λ _. refl
    ] e
place-in_new (f ∷ g ∷ rest) place h e = ap (λ more. f ∷ more) (place-in_new (g ∷ rest) place h.1 e)

pub place-on_top : (chain : List Filled) (place : Place) → 0 < next_offset chain place.chunk
    → with_place chain place ≡ with_more chain place.words
place-on_top [] place h = absurd (omega (arith, h))
place-on_top (f ∷ []) place h =
    elim (same_chunk f.chunk place.chunk) as (λ b. 0 < cond b f.used 0
    → cond b (record { chunk = f.chunk; used = f.used + place.words } ∷ [])
    (f ∷ record { chunk = place.chunk; used = place.words } ∷ [])
    ≡ record { chunk = f.chunk; used = f.used + place.words } ∷ []) [
      | true ↦ λ _. refl
      | false ↦ λ none. absurd (omega (arith, none))
    ] h
place-on_top (f ∷ g ∷ rest) place h = ap (λ more. f ∷ more) (place-on_top (g ∷ rest) place h)
