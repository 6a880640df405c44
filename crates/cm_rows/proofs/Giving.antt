-- Loops over rows, one by one: their chunks are given back, and taken.
-- For `copy_rows`, `give_all`, `take_all`.
use Rattle.std.proofs.Common.{◌≡◌, ℕ, ◌+◌, ◌<◌, Bool, true, false, cond, eqb}
use Rattle.std.proofs.Common.{List, [], ◌∷◌, ◌++◌, map, length, take, drop, get_or, Some, None}
use Rattle.std.proofs.Common.{refl, sym, ◌∙◌, ap, subst, append-nil, inl, inr}
use Rattle.std.specs.Prelude.{filter}
use Rattle.std.proofs.lemmas.List.{take_more, drop_more, map-append}
use Rattle.std.specs.List.{AllByRecursion}
use Rattle.cm_pool.specs.Chunks.{Meets, IsChunk}
use Rattle.cm_pool.specs.Lists.{Among, Pairwise}
use Rattle.std.proofs.lemmas.List.Elements.{filter-append}
use Rattle.cm_pool.specs.declared.chunk.Chunk.{Chunk}
use Rattle.cm_pool.specs.Geometry.{Sizes}
use Rattle.cm_pool.specs.FreeSpace.{FreeSpace, IsFreeChunk, IsUsedChunk, without, with_chunk}
use Rattle.cm_pool.proofs.{meets-turned, among-right}
use Rattle.cm_layout.specs.declared.class_row.ClassRow.{ClassRow}
use Rattle.cm_layout.specs.declared.row.Row.{Row}
use Rattle.cm_layout.specs.declared.row.Row.TheVariants.{Loader, Class}
use Rattle.cm_layout.specs.Rows.{classes_in}
use Rattle.cm_index.specs.declared.slot.BookSlot.{BookSlot}
use Rattle.cm_index.specs.Living.{living}
use Rattle.cm_index.proofs.{living-append}
use Rattle.std.proofs.lemmas.List.{take-append-drop}
use Rattle.cm_rows.specs.Held.{PoolHolds, CanBeHeld, first_chunks, chunks_of_rows, own_chunk}
use Rattle.cm_rows.specs.Held.{living_chunk}
use Rattle.cm_rows.proofs.Holding.{each-among, free-is, take-push, give-back}

module _ {P : Type 0} where
  pub classes-append : (rows more : List (Row P))
      → classes_in (rows ++ more) ≡ classes_in rows ++ classes_in more
  classes-append [] more = refl
  classes-append (Loader r ∷ rows) more = classes-append rows more
  classes-append (Class r p ∷ rows) more = ap (λ l. r ∷ l) (classes-append rows more)

pub first-append : (rs ss : List ClassRow)
    → first_chunks (rs ++ ss) ≡ first_chunks rs ++ first_chunks ss
first-append rs ss =
    ap (λ l. map (λ (r : ClassRow). r.place.chunk) l) (filter-append
    (λ (r : ClassRow). eqb r.place.offset 0) rs ss)
    ∙ map-append (λ (r : ClassRow). r.place.chunk) (filter
    (λ (r : ClassRow). eqb r.place.offset 0) rs) (filter
    (λ (r : ClassRow). eqb r.place.offset 0) ss)

-- ---- all chunks, given back and taken

module _ {P : Type 0} where
  pub firsts-some : (x : Row P) (rest : List (Row P)) (c : Chunk) → own_chunk x ≡ Some c
      → chunks_of_rows (x ∷ rest) ≡ c ∷ chunks_of_rows rest
  firsts-some (Loader r) rest c h = absurd (cc)
  firsts-some (Class r p) rest c h = by_test (eqb r.place.offset 0) refl h
    where
      by_test : (t : Bool) → eqb r.place.offset 0 ≡ t → cond t (Some r.place.chunk) None ≡ Some c
          → chunks_of_rows (Class r p ∷ rest) ≡ c ∷ chunks_of_rows rest
      by_test true e h = let is : r.place.chunk ≡ c = cc in rw (e) (ap
          (λ (d : Chunk). d ∷ chunks_of_rows rest) is)
      by_test false e h = absurd (cc)

  pub firsts-none : (x : Row P) (rest : List (Row P)) → own_chunk x ≡ None
      → chunks_of_rows (x ∷ rest) ≡ chunks_of_rows rest
  firsts-none (Loader r) rest h = refl
  firsts-none (Class r p) rest h = by_test (eqb r.place.offset 0) refl h
    where
      by_test : (t : Bool) → eqb r.place.offset 0 ≡ t → cond t (Some r.place.chunk) None ≡ None
          → chunks_of_rows (Class r p ∷ rest) ≡ chunks_of_rows rest
      by_test true e h = absurd (cc)
      by_test false e h = rw (e) refl

  pub living-more : (slots : List (BookSlot (Row P))) (i : ℕ) (d : BookSlot (Row P))
      → i < length slots
      → living (drop i slots) ≡ cond (get_or slots i d).live
      ((get_or slots i d).item ∷ living (drop (i + 1) slots)) (living (drop (i + 1) slots))
  living-more slots i d lt = ap living (drop_more slots i d lt)

  pub given-more : (sizes : Sizes) (p : FreeSpace) (slots : List (BookSlot (Row P))) (i : ℕ)
      (s : BookSlot (Row P)) (c : Chunk) → i < length slots → s ≡ get_or slots i s
      → living_chunk s ≡ Some c
      → PoolHolds sizes p (chunks_of_rows (living (drop i slots)))
      → PoolHolds sizes (with_chunk p c) (chunks_of_rows (living (drop (i + 1) slots)))
  given-more sizes p slots i s c lt is some h =
      let rest = living (drop (i + 1) slots) in
      let now : living (drop i slots) ≡ cond s.live (s.item ∷ rest) rest =
      living-more slots i s lt ∙ ap (λ (t : BookSlot (Row P)). cond t.live (t.item ∷ rest) rest)
      (sym is) in
      by_test s.live rest (subst (λ (l : List (Row P)). PoolHolds sizes p (chunks_of_rows l)) now
      h) some
    where
      by_test : (t : Bool) (rest : List (Row P))
          → PoolHolds sizes p (chunks_of_rows (cond t (s.item ∷ rest) rest))
          → cond t (own_chunk s.item) None ≡ Some c
          → PoolHolds sizes (with_chunk p c) (chunks_of_rows rest)
      by_test true rest h e = (give-back sizes p [] c (chunks_of_rows rest)
          (subst (λ (l : List Chunk). PoolHolds sizes p l) (firsts-some s.item rest c e) h)).1
      by_test false rest h e = absurd (cc)

  pub given-used : (sizes : Sizes) (p : FreeSpace) (slots : List (BookSlot (Row P))) (i : ℕ)
      (s : BookSlot (Row P)) (c : Chunk) → i < length slots → s ≡ get_or slots i s
      → living_chunk s ≡ Some c
      → PoolHolds sizes p (chunks_of_rows (living (drop i slots))) → IsUsedChunk p c
  given-used sizes p slots i s c lt is some h =
      let rest = living (drop (i + 1) slots) in
      let now : living (drop i slots) ≡ cond s.live (s.item ∷ rest) rest =
      living-more slots i s lt ∙ ap (λ (t : BookSlot (Row P)). cond t.live (t.item ∷ rest) rest)
      (sym is) in
      by_test s.live rest (subst (λ (l : List (Row P)). PoolHolds sizes p (chunks_of_rows l)) now
      h) some
    where
      by_test : (t : Bool) (rest : List (Row P))
          → PoolHolds sizes p (chunks_of_rows (cond t (s.item ∷ rest) rest))
          → cond t (own_chunk s.item) None ≡ Some c
          → IsUsedChunk p c
      by_test true rest h e = (give-back sizes p [] c (chunks_of_rows rest)
          (subst (λ (l : List Chunk). PoolHolds sizes p l) (firsts-some s.item rest c e) h)).0
      by_test false rest h e = absurd (cc)

  pub left-more : (sizes : Sizes) (p : FreeSpace) (slots : List (BookSlot (Row P))) (i : ℕ)
      (s : BookSlot (Row P))
      → i < length slots → s ≡ get_or slots i s → living_chunk s ≡ None
      → PoolHolds sizes p (chunks_of_rows (living (drop i slots)))
      → PoolHolds sizes p (chunks_of_rows (living (drop (i + 1) slots)))
  left-more sizes p slots i s lt is none h =
      let rest = living (drop (i + 1) slots) in
      let now : living (drop i slots) ≡ cond s.live (s.item ∷ rest) rest =
      living-more slots i s lt ∙ ap (λ (t : BookSlot (Row P)). cond t.live (t.item ∷ rest) rest)
      (sym is) in
      by_test s.live rest (subst (λ (l : List (Row P)). PoolHolds sizes p (chunks_of_rows l)) now
      h) none
    where
      by_test : (t : Bool) (rest : List (Row P))
          → PoolHolds sizes p (chunks_of_rows (cond t (s.item ∷ rest) rest))
          → cond t (own_chunk s.item) None ≡ None
          → PoolHolds sizes p (chunks_of_rows rest)
      by_test true rest h e = subst (λ (l : List Chunk). PoolHolds sizes p l)
          (firsts-none s.item rest e) h
      by_test false rest h e = h

-- what is before c in a list has R with it
pair-before : (R : Chunk → Chunk
    → Type 0) (xs : List Chunk) (c : Chunk) (ys : List Chunk) (d : Chunk)
    → Pairwise R (xs ++ c ∷ ys) → Among d xs → R d c
pair-before R [] c ys d h none = absurd none
pair-before R (x ∷ xs) c ys d h (inl e) = subst
    (λ (y : Chunk). R y c) (sym e) (each-among (R x) (xs ++ c ∷ ys) c h.0
    (among-right c xs (c ∷ ys) (inl refl)))
pair-before R (x ∷ xs) c ys d h (inr m) = pair-before R xs c ys d h.1 m

module _ {P : Type 0} where
  firsts-joined : (rows more : List (Row P)) → chunks_of_rows (rows ++ more)
      ≡ chunks_of_rows rows ++ chunks_of_rows more
  firsts-joined rows more = ap first_chunks (classes-append rows more)
      ∙ first-append (classes_in rows) (classes_in more)

  -- what lives before a place, the place, and what lives after it
  pub split-living : (slots : List (BookSlot (Row P))) (i : ℕ) (s : BookSlot (Row P))
      → i < length slots
      → s ≡ get_or slots i s
      → living slots ≡ living (take i slots) ++ cond s.live (s.item ∷ living (drop (i + 1) slots))
      (living (drop (i + 1) slots))
  split-living slots i s lt is =
      ap living (sym (take-append-drop i slots)) ∙ living-append (take i slots) (drop i slots)
      ∙ ap (λ l. living (take i slots) ++ l) (living-more slots i s lt
      ∙ ap (λ (t : BookSlot (Row P)). cond t.live (t.item ∷ living (drop (i + 1) slots))
      (living (drop (i + 1) slots))) (sym is))

  pub taken-living : (slots : List (BookSlot (Row P))) (i : ℕ) (s : BookSlot (Row P))
      → i < length slots
      → s ≡ get_or slots i s
      → living (take (i + 1) slots) ≡ living (take i slots) ++ cond s.live (s.item ∷ []) []
  taken-living slots i s lt is =
      ap living (take_more slots i s lt) ∙ living-append (take i slots) (get_or slots i s ∷ [])
      ∙ ap (λ (t : BookSlot (Row P)). living (take i slots) ++ cond t.live (t.item ∷ []) [])
      (sym is)

  pub taken-more : (sizes : Sizes) (p : FreeSpace) (slots : List (BookSlot (Row P))) (i : ℕ)
      (s : BookSlot (Row P)) (c : Chunk) → i < length slots → s ≡ get_or slots i s
      → living_chunk s ≡ Some c → CanBeHeld sizes (chunks_of_rows (living slots))
      → PoolHolds sizes p (chunks_of_rows (living (take i slots))) → IsFreeChunk p c
      × PoolHolds sizes (without p c) (chunks_of_rows (living (take (i + 1) slots)))
  taken-more sizes p slots i s c lt is some can h =
      by_test s.live some (living (take i slots)) (living (drop (i + 1) slots)) h
      (subst (λ (l : List (Row P)). CanBeHeld sizes (chunks_of_rows l))
      (split-living slots i s lt is) can)
      (living (take (i + 1) slots)) (taken-living slots i s lt is)
    where
      by_test : (t : Bool) → cond t (own_chunk s.item) None ≡ Some c → (front rest : List (Row P))
          → PoolHolds sizes p (chunks_of_rows front)
          → CanBeHeld sizes (chunks_of_rows (front ++ cond t (s.item ∷ rest) rest))
          → (more : List (Row P)) → more ≡ front ++ cond t (s.item ∷ []) []
          → IsFreeChunk p c × PoolHolds sizes (without p c) (chunks_of_rows more)
      by_test false e front rest h can more is = absurd (cc)
      by_test true e front rest h can more is =
          let parts : chunks_of_rows (front ++ s.item ∷ rest)
          ≡ chunks_of_rows front ++ c ∷ chunks_of_rows rest =
          firsts-joined front (s.item ∷ rest) ∙ ap (λ l. chunks_of_rows front ++ l)
          (firsts-some s.item rest c e) in
          let each : AllByRecursion (IsChunk sizes)
          (chunks_of_rows front ++ c ∷ chunks_of_rows rest) =
          subst (AllByRecursion (IsChunk sizes)) parts can.each in
          let apart : Pairwise (λ a b. ¬ Meets a b)
          (chunks_of_rows front ++ c ∷ chunks_of_rows rest) =
          subst (Pairwise (λ a b. ¬ Meets a b)) parts can.apart in
          let chunk = each-among (IsChunk sizes) (chunks_of_rows front ++ c ∷ chunks_of_rows rest) c
          each
          (among-right c (chunks_of_rows front) (c ∷ chunks_of_rows rest) (inl refl)) in
          let free = (free-is sizes p (chunks_of_rows front) c h).1 (
            chunk,
            λ x m meet. pair-before (λ a b. ¬ Meets a b) (chunks_of_rows front) c
                (chunks_of_rows rest) x
                apart m (meets-turned c x meet),
          ) in
          let one : chunks_of_rows more ≡ chunks_of_rows front ++ c ∷ [] = ap chunks_of_rows is
          ∙ firsts-joined front (s.item ∷ []) ∙ ap (λ l. chunks_of_rows front ++ l)
          (firsts-some s.item [] c e) in (
            free,
            subst (λ (l : List Chunk). PoolHolds sizes (without p c) l) (sym one)
                (take-push sizes p (chunks_of_rows front) c h free),
          )

  pub passed-more : (sizes : Sizes) (p : FreeSpace) (slots : List (BookSlot (Row P))) (i : ℕ)
      (s : BookSlot (Row P))
      → i < length slots → s ≡ get_or slots i s → living_chunk s ≡ None
      → PoolHolds sizes p (chunks_of_rows (living (take i slots)))
      → PoolHolds sizes p (chunks_of_rows (living (take (i + 1) slots)))
  passed-more sizes p slots i s lt is none h =
      by_test s.live none (living (take i slots)) h (living (take (i + 1) slots))
      (taken-living slots i s lt is)
    where
      by_test : (t : Bool) → cond t (own_chunk s.item) None ≡ None → (front : List (Row P))
          → PoolHolds sizes p (chunks_of_rows front)
          → (more : List (Row P)) → more ≡ front ++ cond t (s.item ∷ []) []
          → PoolHolds sizes p (chunks_of_rows more)
      by_test true e front h more is = subst (λ (l : List Chunk). PoolHolds sizes p l)
          (sym (ap chunks_of_rows is ∙ firsts-joined front (s.item ∷ [])
          ∙ ap (λ l. chunks_of_rows front ++ l) (firsts-none s.item [] e)
          ∙ append-nil (chunks_of_rows front))) h
      by_test false e front h more is = subst (λ (l : List Chunk). PoolHolds sizes p l)
          (sym (ap chunks_of_rows (is ∙ append-nil front))) h
