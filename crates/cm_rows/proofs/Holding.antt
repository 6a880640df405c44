-- A pool with all roots that holds the chunks of rows: taking another, giving one back, and
-- swapping one for another.
-- For `LiveRows+unit::copy_from`, `LiveRows::add_loader`, `LiveRows::clear` and others.
use Rattle.std.proofs.Common.{◌≡◌, ◌≢◌, ℕ, ◌↔◌, List, [], ◌∷◌, ◌++◌, map, inl, inr, refl, sym, ◌∙◌}
use Rattle.std.proofs.Common.{ap, subst, arith, append_assoc, append-nil}
use Rattle.std.specs.List.{AllByRecursion}
use Rattle.cm_pool.specs.declared.chunk.Chunk.{Chunk}
use Rattle.cm_pool.specs.Geometry.{Sizes}
use Rattle.cm_pool.specs.Chunks.{Meets, Covers, IsBlock, IsChunk}
use Rattle.cm_pool.specs.FreeSpace.{FreeSpace, IsFreeWord, IsFreeChunk, IsUsedChunk, without}
use Rattle.cm_pool.specs.FreeSpace.{with_chunk}
use Rattle.cm_pool.specs.Lists.{Among, Pairwise}
use Rattle.cm_pool.proofs.{none_lost-given, same_chunk-itself}
use Rattle.cm_pool.proofs.{same_chunk-false, meets-itself}
use Rattle.cm_pool.proofs.SpaceLaws.{taken_is_held, held_is_given, taking_loses_none}
use Rattle.cm_rows.specs.Held.{PoolHolds}
use Rattle.cm_rows.proofs.Classes.{goes}

pub each-among : {X : Type 0} (P : X → Type 0) (xs : List X) (x : X) → AllByRecursion P xs
    → Among x xs → P x
each-among P [] x h none = absurd none
each-among P (y ∷ xs) x h (inl e) = subst P (sym e) h.0
each-among P (y ∷ xs) x h (inr m) = each-among P xs x h.1 m

-- a chunk is free exactly if the region has it and it shares no word with those held
pub free-is : (sizes : Sizes) (p : FreeSpace) (cs : List Chunk) (c : Chunk) → PoolHolds sizes p cs
    → IsFreeChunk p c ↔ (IsChunk sizes c × ((d : Chunk) → Among d cs → ¬ Meets c d))
free-is sizes p cs c h = (forth, back)
  where
    forth : IsFreeChunk p c → IsChunk sizes c × ((d : Chunk) → Among d cs → ¬ Meets c d)
    forth free =
        let top : IsBlock sizes.top p.roots c = subst
        (λ (s : Sizes). IsBlock s.top p.roots c) h.geometry free.block in (
          subst (λ (n : ℕ). IsBlock sizes.top n c) h.roots top,
          λ d m meet.
              let used = each-among (IsUsedChunk p) cs d h.held.each m in
              let in_c : Covers c meet.0 meet.1 = meet.2 in
              let in_d : Covers d meet.0 meet.1 = meet.3 in
              let same : c.root ≡ d.root = sym in_c.same_root ∙ in_d.same_root in
              used.words meet.1 in_d.from in_d.to
              (subst (λ (n : ℕ). IsFreeWord p n meet.1) same
              (free.words meet.1 in_c.from in_c.to)),
        )

    back : IsChunk sizes c × ((d : Chunk) → Among d cs → ¬ Meets c d) → IsFreeChunk p c
    back (chunk, apart) =
        let top : IsBlock p.geometry.top sizes.roots c = subst
        (λ (s : Sizes). IsBlock s.top sizes.roots c) (sym h.geometry) chunk in
        let block : IsBlock p.geometry.top p.roots c = subst
        (λ (n : ℕ). IsBlock p.geometry.top n c) (sym h.roots) top in
        record {
          block = block;
          words = λ word low high.
              elim (h.none_lost.each c.root word block.in_a_root (omega (arith, block.inside))) [
                | inl free ↦ free
                | inr held ↦ absurd (apart held.0 held.1
                    (c.root, word, record { same_root = refl; from = low; to = high }, held.2))
              ];
        }

pub take-put : (sizes : Sizes) (p : FreeSpace) (xs : List Chunk) (c : Chunk) (ys : List Chunk)
    → PoolHolds sizes p (xs ++ ys) → IsFreeChunk p c
    → PoolHolds sizes (without p c) (xs ++ c ∷ ys)
take-put sizes p xs c ys h free =
    record {
      geometry = h.geometry;
      roots = h.roots;
      held = taken_is_held p xs c ys h.held free;
      none_lost = taking_loses_none p xs c ys h.none_lost free;
    }

-- the chunk is taken and appended to the others
pub take-push : (sizes : Sizes) (p : FreeSpace) (cs : List Chunk) (c : Chunk) → PoolHolds sizes p cs
    → IsFreeChunk p c → PoolHolds sizes (without p c) (cs ++ c ∷ [])
take-push sizes p cs c h free = take-put sizes p cs c [] (subst
    (λ (l : List Chunk). PoolHolds sizes p l) (sym (append-nil cs)) h) free

pub give-back : (sizes : Sizes) (p : FreeSpace) (xs : List Chunk) (c : Chunk) (ys : List Chunk)
    → PoolHolds sizes p (xs ++ c ∷ ys) → IsUsedChunk p c
    × PoolHolds sizes (with_chunk p c) (xs ++ ys)
give-back sizes p xs c ys h =
    let given = held_is_given p xs c ys h.held in (
      given.0,
      record {
        geometry = h.geometry;
        roots = h.roots;
        held = given.1;
        none_lost = none_lost-given p xs c ys h.none_lost given.0;
      },
    )

-- ---- one chunk for another

-- a chunk is in the list, between others that differ from it
record Stands (c : Chunk) (cs : List Chunk) : Type 0 where
  front : List Chunk
  back : List Chunk
  parts : cs ≡ front ++ c ∷ back
  in_front : (d : Chunk) → Among d front → d ≢ c
  behind : (d : Chunk) → Among d back → d ≢ c

abbrev Apart : Chunk → Chunk → Type 0
Apart a b = ¬ Meets a b

stands : (c : Chunk) (cs : List Chunk) → Pairwise Apart cs → Among c cs → Stands c cs
stands c [] apart none = absurd none
stands c (d ∷ cs) apart (inl e) =
    record {
      front = [];
      back = cs;
      parts = ap (λ (x : Chunk). x ∷ cs) (sym e);
      in_front = λ x none. absurd none;
      behind = λ x m same. each-among (Apart d) cs x apart.0 m (subst
          (λ (y : Chunk). Meets d y) (sym e ∙ sym same) (meets-itself d));
    }
stands c (d ∷ cs) apart (inr m) =
    let rest = stands c cs apart.1 m in
    record {
      front = d ∷ rest.front;
      back = rest.back;
      parts = ap (λ l. d ∷ l) rest.parts;
      in_front = first rest;
      behind = rest.behind;
    }
  where
    first : (rest : Stands c cs) → (x : Chunk) → Among x (d ∷ rest.front) → x ≢ c
    first rest x (inl e) same = each-among (Apart d) cs c apart.0 m (subst
        (λ (y : Chunk). Meets d y) (sym e ∙ same) (meets-itself d))
    first rest x (inr among) same = rest.in_front x among same

swap-none : (from to : Chunk) (cs : List Chunk) → ((d : Chunk) → Among d cs → d ≢ from)
    → map (goes from to) cs ≡ cs
swap-none from to [] h = refl
swap-none from to (c ∷ cs) h =
    rw (same_chunk-false c from (h c (inl refl)), swap-none from to cs (λ d m. h d (inr m))) refl

swap-at : (from to : Chunk) (xs ys : List Chunk) → ((d : Chunk) → Among d xs → d ≢ from)
    → ((d : Chunk) → Among d ys → d ≢ from) → map (goes from to) (xs ++ from ∷ ys) ≡ xs ++ to ∷ ys
swap-at from to [] ys hx hy = rw (same_chunk-itself from, swap-none from to ys hy) refl
swap-at from to (x ∷ xs) ys hx hy =
    rw (same_chunk-false x from (hx x (inl refl)), swap-at from to xs ys (λ d m. hx d (inr m)) hy)
    refl

-- the new chunk is taken, and then the old one is given back
pub swap : (sizes : Sizes) (p : FreeSpace) (cs : List Chunk) (from to : Chunk)
    → PoolHolds sizes p cs
    → Among from cs → IsFreeChunk p to
    → IsUsedChunk (without p to) from
    × PoolHolds sizes (with_chunk (without p to) from) (map (goes from to) cs)
swap sizes p cs from to h m free =
    let s = stands from cs h.held.apart m in
    let parts : PoolHolds sizes p (s.front ++ from ∷ s.back) = subst
    (λ (l : List Chunk). PoolHolds sizes p l) s.parts h in
    let taken : PoolHolds sizes (without p to) (s.front ++ to ∷ from ∷ s.back) =
    take-put sizes p s.front to (from ∷ s.back) parts free in
    let turned : PoolHolds sizes (without p to) ((s.front ++ to ∷ []) ++ from ∷ s.back) = subst
    (λ (l : List Chunk). PoolHolds sizes (without p to) l)
    (sym (append_assoc s.front (to ∷ []) (from ∷ s.back))) taken in
    let given = give-back sizes (without p to) (s.front ++ to ∷ []) from s.back turned in
    let result : (s.front ++ to ∷ []) ++ s.back ≡ map (goes from to) cs =
    append_assoc s.front (to ∷ []) s.back ∙ sym (swap-at from to s.front s.back s.in_front s.behind)
    ∙ ap (λ (l : List Chunk). map (goes from to) l) (sym s.parts) in (
      given.0,
      subst
          (λ (l : List Chunk). PoolHolds sizes (with_chunk (without p to) from) l) result given.1,
    )
