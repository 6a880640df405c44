-- What holds for each place that an arena returns.
-- For `Arena::place`.
use Rattle.std.proofs.Common.{◌≡◌, ℕ, ◌≤◌, List, [], ◌∷◌, ◌++◌, Some, length, refl, sym, ap, ◌∙◌}
use Rattle.std.proofs.Common.{subst, inl, inr, arith, append_assoc}
use Rattle.std.specs.List.{AllByRecursion}
use Rattle.cm_pool.specs.declared.chunk.Chunk.{Chunk}
use Rattle.cm_pool.specs.FreeSpace.{FreeSpace, with_root}
use Rattle.cm_pool.specs.Lists.{Among}
use Rattle.cm_pool.specs.Held.{AreHeld, NoneIsLost}
use Rattle.cm_pool.specs.declared.place.Place.{Place}
use Rattle.cm_arena.specs.Chains.{Filled, chain_chunks, last_of, with_more, IsFilled}
use Rattle.cm_pool.specs.Places.{IsInside}
use Rattle.cm_pool.proofs.SpaceLaws.{taken_is_held, roots_keep_held, taking_loses_none}
use Rattle.cm_pool.proofs.SpaceLaws.{roots_lose_none}
use Rattle.cm_arena.specs.Placing.{Fetches, Places, order_wanted}
use Rattle.cm_arena.proofs.Fetching.{fetched-small}

-- filling the last chunk further changes no chunk
chunks-with_more : (chain : List Filled) (words : ℕ)
    → chain_chunks (with_more chain words) ≡ chain_chunks chain
chunks-with_more [] words = refl
chunks-with_more (f ∷ []) words = refl
chunks-with_more (f ∷ g ∷ rest) words = ap (λ cs. f.chunk ∷ cs) (chunks-with_more (g ∷ rest) words)

chunks-push : (chain : List Filled) (f : Filled)
    → chain_chunks (chain ++ f ∷ []) ≡ chain_chunks chain ++ f.chunk ∷ []
chunks-push [] f = refl
chunks-push (g ∷ rest) f = ap (λ cs. g.chunk ∷ cs) (chunks-push rest f)

among-last : (chain : List Filled) (f : Filled) → last_of chain ≡ Some f
    → Among f.chunk (chain_chunks chain)
among-last [] f e = cc
among-last (g ∷ []) f e = let same : g ≡ f = cc in inl (ap (λ (h : Filled). h.chunk) (sym same))
among-last (g ∷ h ∷ rest) f e = inr (among-last (h ∷ rest) f e)

among-push : (cs : List Chunk) (c : Chunk) → Among c (cs ++ c ∷ [])
among-push [] c = inl refl
among-push (d ∷ cs) c = inr (among-push cs c)

filled-last : (chain : List Filled) (f : Filled) → AllByRecursion IsFilled chain
    → last_of chain ≡ Some f → IsFilled f
filled-last [] f h e = cc
filled-last (g ∷ []) f h e = let same : g ≡ f = cc in subst IsFilled same h.0
filled-last (g ∷ k ∷ rest) f h e = filled-last (k ∷ rest) f h.1 e

pub place-inside : (chain new : List Filled) (pool left : FreeSpace) (words : ℕ) (place : Place)
    → AllByRecursion IsFilled chain → 1 ≤ words → pool.geometry.top ≤ 12
    → Places chain pool words place new left → IsInside place × Among place.chunk (chain_chunks new)
place-inside chain new pool left words place filled some small (inl (on, same)) = (
  record {
    small = (filled-last chain _ filled on.last).small;
    some = omega (arith, on.amount);
    within = omega (arith, on.room, on.amount);
  },
  subst (Among place.chunk) (sym (ap chain_chunks on.after ∙ chunks-with_more chain words))
      (among-last chain _ on.last),
)
place-inside chain new pool left words place filled some small (inr h) = (
  record {
    small = omega (
      arith,
      fetched-small pool left
          (order_wanted h.need (length chain) pool.geometry.top) h.need place.chunk h.fetches,
    );
    some = omega (arith, h.in_new.amount);
    within = omega (arith, h.in_new.front, h.in_new.room, h.in_new.amount);
  },
  subst (Among place.chunk) (sym (ap chain_chunks h.in_new.after ∙ chunks-push chain _))
      (among-push (chain_chunks chain) place.chunk),
)

-- a fetched chunk is held with those that were held before
fetched-held : (pool left : FreeSpace) (wanted need : ℕ) (c : Chunk) (mine others : List Chunk)
    → Fetches pool wanted need c left → AreHeld pool (mine ++ others)
    → AreHeld left (mine ++ c ∷ others)
fetched-held pool left wanted need c mine others (inl h) held = subst
    (λ (p : FreeSpace). AreHeld p (mine ++ c ∷ others)) (sym h.left)
    (taken_is_held pool mine c others held h.first.free)
fetched-held pool left wanted need c mine others (inr (inl h)) held = subst
    (λ (p : FreeSpace). AreHeld p (mine ++ c ∷ others)) (sym h.left)
    (taken_is_held pool mine c others held h.first.free)
fetched-held pool left wanted need c mine others (inr (inr h)) held =
    subst (λ (p : FreeSpace). AreHeld p (mine ++ c ∷ others)) (sym h.left)
    (taken_is_held (with_root pool) mine c others (roots_keep_held pool (mine ++ others) held)
    h.first.free)

pub place-held : (chain new : List Filled) (pool left : FreeSpace) (words : ℕ) (place : Place)
    (others : List Chunk) → Places chain pool words place new left
    → AreHeld pool (chain_chunks chain ++ others) → AreHeld left (chain_chunks new ++ others)
place-held chain new pool left words place others (inl (on, same)) held =
    subst (λ (p : FreeSpace). AreHeld p (chain_chunks new ++ others)) (sym same)
    (subst (λ (cs : List Chunk). AreHeld pool (cs ++ others))
    (sym (ap chain_chunks on.after ∙ chunks-with_more chain words)) held)
place-held chain new pool left words place others (inr h) held =
    let chunks : chain_chunks new ++ others ≡ chain_chunks chain ++ place.chunk ∷ others =
    ap (λ (cs : List Chunk). cs ++ others) (ap chain_chunks h.in_new.after ∙ chunks-push chain _)
    ∙ append_assoc (chain_chunks chain) (place.chunk ∷ []) others
    in
    subst (AreHeld left) (sym chunks)
    (fetched-held pool left (order_wanted h.need (length chain) pool.geometry.top) h.need
    place.chunk (chain_chunks chain) others h.fetches held)

-- fetching a chunk loses no word
fetched-none_lost : (pool left : FreeSpace) (wanted need : ℕ) (c : Chunk) (mine others : List Chunk)
    → Fetches pool wanted need c left → NoneIsLost pool (mine ++ others)
    → NoneIsLost left (mine ++ c ∷ others)
fetched-none_lost pool left wanted need c mine others (inl h) kept = subst
    (λ (p : FreeSpace). NoneIsLost p (mine ++ c ∷ others)) (sym h.left)
    (taking_loses_none pool mine c others kept h.first.free)
fetched-none_lost pool left wanted need c mine others (inr (inl h)) kept = subst
    (λ (p : FreeSpace). NoneIsLost p (mine ++ c ∷ others)) (sym h.left)
    (taking_loses_none pool mine c others kept h.first.free)
fetched-none_lost pool left wanted need c mine others (inr (inr h)) kept =
    subst (λ (p : FreeSpace). NoneIsLost p (mine ++ c ∷ others)) (sym h.left)
    (taking_loses_none (with_root pool) mine c others (roots_lose_none pool (mine ++ others) kept)
    h.first.free)

pub place-none_lost : (chain new : List Filled) (pool left : FreeSpace) (words : ℕ) (place : Place)
    (others : List Chunk) → Places chain pool words place new left
    → NoneIsLost pool (chain_chunks chain ++ others) → NoneIsLost left (chain_chunks new ++ others)
place-none_lost chain new pool left words place others (inl (on, same)) kept =
    subst (λ (p : FreeSpace). NoneIsLost p (chain_chunks new ++ others)) (sym same)
    (subst (λ (cs : List Chunk). NoneIsLost pool (cs ++ others))
    (sym (ap chain_chunks on.after ∙ chunks-with_more chain words)) kept)
place-none_lost chain new pool left words place others (inr h) kept =
    let chunks : chain_chunks new ++ others ≡ chain_chunks chain ++ place.chunk ∷ others =
    ap (λ (cs : List Chunk). cs ++ others) (ap chain_chunks h.in_new.after ∙ chunks-push chain _)
    ∙ append_assoc (chain_chunks chain) (place.chunk ∷ []) others
    in
    subst (NoneIsLost left) (sym chunks)
    (fetched-none_lost pool left (order_wanted h.need (length chain) pool.geometry.top) h.need
    place.chunk (chain_chunks chain) others h.fetches kept)
