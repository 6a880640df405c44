-- An adopted place, and what it leaves to others.
-- For `Space::adopt`, `adopt_front`, `adopt_place`.
use Rattle.std.proofs.Common.{◌≡◌, ℕ, suc, ◌+◌, ◌-◌, ◌≤◌, ◌<◌, Bool, true, false, cond, eqb, List}
use Rattle.std.proofs.Common.{[], ◌∷◌, ◌++◌, refl, sym, ap, ◌∙◌, subst, inl, inr, arith}
use Rattle.std.proofs.Common.{append_assoc, IsTrue, ◌↔◌, Result, Ok, Err, IfOk, MatchResult}
use Rattle.std.proofs.lemmas.Bool.{eq-eqb, eqb-true, cases_eq, cases_lt}
use Rattle.std.proofs.lemmas.Nat.{pow_pos}
use Rattle.cm_pool.specs.declared.chunk.Chunk.{Chunk}
use Rattle.cm_pool.specs.declared.place.Place.{Place}
use Rattle.cm_pool.specs.Chunks.{chunk_size, same_chunk, IsChunk}
use Rattle.cm_pool.specs.FreeSpace.{FreeSpace, IsFreeChunk, IsUsedChunk, without}
use Rattle.cm_pool.specs.Held.{AreHeld, NoneIsLost}
use Rattle.cm_pool.specs.Lists.{Among}
use Rattle.cm_pool.specs.Places.{IsInside}
use Rattle.cm_pool.proofs.{each-among, among-left}
use Rattle.cm_pool.proofs.{same_chunk-true}
use Rattle.cm_pool.proofs.SpaceLaws.{taken_is_held, taking_loses_none}
use Rattle.cm_arena.specs.Chains.{Filled, chain_chunks}
use Rattle.cm_arena.specs.Placing.{next_offset, with_place, IsNextPlace}
use Rattle.cm_space.specs.Adopting.{reaching, pool_after, IsAdoptable, IsOnTheWay}
use Rattle.cm_space.proofs.Rooted.{rooted-held, rooted-kept, reaching-free, reaching-present}
use Rattle.cm_space.proofs.Spaces.{KeepsOthers}

-- no chunk is free and used
free-not_used : (p : FreeSpace) (c : Chunk) → IsFreeChunk p c → ¬ IsUsedChunk p c
free-not_used p c free used =
    let some : c.at < c.at + chunk_size c.order = omega (arith, pow_pos c.order) in
    used.words c.at (omega arith) some (free.words c.at (omega arith) some)

-- so a free chunk is in no chain
pub free-not_among : (p : FreeSpace) (cs rest : List Chunk) (c : Chunk) → AreHeld p (cs ++ rest)
    → IsFreeChunk p c → ¬ Among c cs
free-not_among p cs rest c held free m =
    free-not_used p c free (each-among (IsUsedChunk p) (cs ++ rest) c held.each
    (among-left c cs rest m))

-- if a chunk isn't in the chain, the next place in it is at its front
record IsNew (chain : List Filled) (place : Place) : Type 0 where
  offset : next_offset chain place.chunk ≡ 0
  chunks : chain_chunks (with_place chain place) ≡ chain_chunks chain ++ place.chunk ∷ []

not_among-new : (chain : List Filled) (place : Place) → ¬ Among place.chunk (chain_chunks chain)
    → IsNew chain place
not_among-new [] place h = record { offset = refl; chunks = refl }
not_among-new (f ∷ []) place h = by_test (same_chunk f.chunk place.chunk) refl
  where
    by_test : (t : Bool) → same_chunk f.chunk place.chunk ≡ t → IsNew (f ∷ []) place
    by_test true e = absurd (h (inl (sym (same_chunk-true f.chunk place.chunk e))))
    by_test false e = record { offset = rw (e) refl; chunks = rw (e) refl }
not_among-new (f ∷ g ∷ rest) place h =
    let more = not_among-new (g ∷ rest) place (λ m. h (inr m)) in
    record { offset = more.offset; chunks = ap (λ cs. f.chunk ∷ cs) more.chunks }

chunks-on_top : (chain : List Filled) (place : Place) → 0 < next_offset chain place.chunk
    → chain_chunks (with_place chain place) ≡ chain_chunks chain
chunks-on_top [] place h = absurd (omega (arith, h))
chunks-on_top (f ∷ []) place h =
    elim (same_chunk f.chunk place.chunk) as (λ b. 0 < cond b f.used 0
    → chain_chunks (cond b (record { chunk = f.chunk; used = f.used + place.words } ∷ [])
    (f ∷ record { chunk = place.chunk; used = place.words } ∷ [])) ≡ f.chunk ∷ []) [
      | true ↦ λ _. refl
      | false ↦ λ none. absurd (omega (arith, none))
    ] h
chunks-on_top (f ∷ g ∷ rest) place h = ap (λ cs. f.chunk ∷ cs) (chunks-on_top (g ∷ rest) place h)

-- a place at the front of a free chunk is the next one
pub front-next : (p : FreeSpace) (chain : List Filled) (rest : List Chunk) (place : Place)
    → AreHeld p (chain_chunks chain ++ rest) → IsInside place → place.offset ≡ 0
    → IsFreeChunk p place.chunk → IsNextPlace chain place
front-next p chain rest place held inside front free = record {
  inside = inside;
  offset = front ∙ sym (not_among-new chain place
      (free-not_among p (chain_chunks chain) rest place.chunk held free)).offset;
}

pub after-front : (p : FreeSpace) (place : Place) → place.offset ≡ 0
    → pool_after p place ≡ without (reaching p place.chunk.root) place.chunk
after-front p place e = rw (eq-eqb place.offset 0 e) refl

pub after-top : (p : FreeSpace) (place : Place) → 0 < place.offset → pool_after p place ≡ p
after-top p place h = by_test (eqb place.offset 0) refl
  where
    by_test : (t : Bool) → eqb place.offset 0 ≡ t
        → cond t (without (reaching p place.chunk.root) place.chunk) p ≡ p
    by_test true e = let zero : place.offset ≡ 0 = eqb-true place.offset 0 e in absurd (omega arith)
    by_test false e = refl

front-keeps : (p : FreeSpace) (chain : List Filled) (place : Place) → place.offset ≡ 0
    → IsFreeChunk (reaching p place.chunk.root) place.chunk
    → KeepsOthers p chain (without (reaching p place.chunk.root) place.chunk)
    (with_place chain place)
front-keeps p chain place front free =
    let q = reaching p place.chunk.root in
    let n = suc place.chunk.root - p.roots in
    let chunks : (rest : List Chunk) → AreHeld q (chain_chunks chain ++ rest)
    → chain_chunks chain ++ place.chunk ∷ rest ≡ chain_chunks (with_place chain place) ++ rest =
    λ rest held. sym (ap (λ cs. cs ++ rest)
    (not_among-new chain place
    (free-not_among q (chain_chunks chain) rest place.chunk held free)).chunks
    ∙ append_assoc (chain_chunks chain) (place.chunk ∷ []) rest) in
    record {
      held = λ rest h.
          let more = rooted-held p n (chain_chunks chain ++ rest) h in
          subst (λ (cs : List Chunk). AreHeld (without q place.chunk) cs) (chunks rest more)
          (taken_is_held q (chain_chunks chain) place.chunk rest more free);
      kept = λ rest h kept.
          let more = rooted-held p n (chain_chunks chain ++ rest) h in
          subst (λ (cs : List Chunk). NoneIsLost (without q place.chunk) cs) (chunks rest more)
          (taking_loses_none q (chain_chunks chain) place.chunk rest
          (rooted-kept p n (chain_chunks chain ++ rest) kept) free);
    }

top-keeps : (p : FreeSpace) (chain : List Filled) (place : Place)
    → 0 < next_offset chain place.chunk
    → KeepsOthers p chain p (with_place chain place)
top-keeps p chain place top =
    let same = sym (chunks-on_top chain place top) in
    record {
      held = λ rest h. subst (λ (cs : List Chunk). AreHeld p (cs ++ rest)) same h;
      kept = λ rest h kept. subst (λ (cs : List Chunk). NoneIsLost p (cs ++ rest)) same kept;
    }

pub adopted-keeps : (p : FreeSpace) (chain : List Filled) (place : Place)
    → IsAdoptable chain p place
    → KeepsOthers p chain (pool_after p place) (with_place chain place)
adopted-keeps p chain place h =
    elim (cases_eq place.offset 0) [
      | inl e ↦ subst (λ (q : FreeSpace). KeepsOthers p chain q (with_place chain place))
          (sym (after-front p place e))
          (front-keeps p chain place e (h.front e).1)
      | inr other ↦
          let pos : 0 < place.offset = omega arith in
          subst (λ (q : FreeSpace). KeepsOthers p chain q (with_place chain place))
          (sym (after-top p place pos))
          (top-keeps p chain place (omega (arith, h.next.offset)))
    ]

-- more roots change nothing of what is held
pub rooted-keeps : (p q : FreeSpace) (root : ℕ) (chain : List Filled) → IsOnTheWay p root q
    → KeepsOthers p chain q chain
rooted-keeps p q root chain way = record {
  held = λ rest h. subst (λ (r : FreeSpace). AreHeld r (chain_chunks chain ++ rest)) (sym way.left)
      (rooted-held p way.count (chain_chunks chain ++ rest) h);
  kept = λ rest h kept. subst (λ (r : FreeSpace). NoneIsLost r (chain_chunks chain ++ rest))
      (sym way.left) (rooted-kept p way.count (chain_chunks chain ++ rest) kept);
}

pub same-keeps : (p : FreeSpace) (chain : List Filled) → KeepsOthers p chain p chain
same-keeps p chain = record { held = λ rest h. h; kept = λ rest h kept. kept }

-- a place at the front of a chunk of the region
pub record IsAtFront (chain : List Filled) (p : FreeSpace) (place : Place) : Type 0 where
  pub front : place.offset ≡ 0
  pub inside : IsInside place
  pub within : IsChunk p.geometry place.chunk
  pub rest : List Chunk
  pub held : AreHeld p (chain_chunks chain ++ rest)

-- the place is adoptable if the chunk is free once its root is present
pub free-adoptable : (chain : List Filled) (p : FreeSpace) (place : Place) → IsAtFront chain p place
    → IsFreeChunk (reaching p place.chunk.root) place.chunk → IsAdoptable chain p place
free-adoptable chain p place at free =
    let more =
    rooted-held p (suc place.chunk.root - p.roots) (chain_chunks chain ++ at.rest) at.held in
    record {
      next = front-next (reaching p place.chunk.root) chain at.rest place more at.inside
          at.front free;
      front = λ e. (at.within, free);
    }

pub new-adoptable : (chain : List Filled) (p : FreeSpace) (place : Place) → IsAtFront chain p place
    → p.roots ≤ place.chunk.root → IsAdoptable chain p place
new-adoptable chain p place at new =
    free-adoptable chain p place at (reaching-free p place.chunk at.within new)

pub front-iff : (chain : List Filled) (p : FreeSpace) (place : Place) → IsAtFront chain p place
    → (b : Bool) → (IsTrue b ↔ IsFreeChunk (reaching p place.chunk.root) place.chunk)
    → (IsTrue b ↔ IsAdoptable chain p place)
front-iff chain p place at b h =
    (λ t. free-adoptable chain p place at (h.0 t), λ a. h.1 (a.front at.front).1)

-- if the chunk isn't free, no root was added
pub front-left : (chain : List Filled) (p q : FreeSpace) (place : Place) → IsAtFront chain p place
    → (b : Bool) → (IsTrue b ↔ IsFreeChunk (reaching p place.chunk.root) place.chunk)
    → q ≡ cond b (without (reaching p place.chunk.root) place.chunk) (reaching p place.chunk.root)
    → q ≡ cond b (pool_after p place) p
front-left chain p q place at true h e = e ∙ sym (after-front p place at.front)
front-left chain p q place at false h e =
    elim (cases_lt place.chunk.root p.roots) [
      | inl present ↦ e ∙ reaching-present p place.chunk.root present
      | inr new ↦ let bad : false ≡ true = h.1 (reaching-free p place.chunk at.within new) in
          absurd (cc)
    ]

-- ---- the arena and the pool afterwards

-- what adopting a place leaves, whatever the result is
pub answer-keeps : {E : Type 0} (r : Result Bool E) (p q : FreeSpace) (chain next : List Filled)
    (place : Place)
    → IfOk r (λ taken. IsTrue taken ↔ IsAdoptable chain p place)
    → MatchResult r (λ taken. next ≡ cond taken (with_place chain place) chain) (λ _. next ≡ chain)
    → MatchResult r (λ taken. q ≡ cond taken (pool_after p place) p)
    (λ _. IsOnTheWay p place.chunk.root q)
    → KeepsOthers p chain q next
answer-keeps (Ok true) p q chain next place is arena pool = subst
    (λ (s : FreeSpace). KeepsOthers p chain s next) (sym pool)
    (subst (KeepsOthers p chain (pool_after p place)) (sym arena)
    (adopted-keeps p chain place (is.0 refl)))
answer-keeps (Ok false) p q chain next place is arena pool = subst
    (λ (s : FreeSpace). KeepsOthers p chain s next) (sym pool)
    (subst (KeepsOthers p chain p) (sym arena) (same-keeps p chain))
answer-keeps (Err e) p q chain next place is arena pool =
    subst (KeepsOthers p chain q) (sym arena) (rooted-keeps p q place.chunk.root chain pool)
