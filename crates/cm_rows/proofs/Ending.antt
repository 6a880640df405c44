-- A live row ends, and its chunk is given back if the row's record is the first there.
-- For `end_row`, `unload_rows`.
use Rattle.std.proofs.Common.{◌≡◌, ℕ, zero, suc, ◌+◌, ◌<◌, Bool, true, false, cond, List, [], ◌∷◌}
use Rattle.std.proofs.Common.{◌++◌}
use Rattle.std.proofs.Common.{length, set, get_or, Some, None, refl, sym, ◌∙◌, ap, subst, arith}
use Rattle.std.proofs.Common.{length-append}
use Rattle.std.specs.List.{slice_get}
use Rattle.cm_pool.specs.declared.chunk.Chunk.{Chunk}
use Rattle.cm_pool.specs.Geometry.{Sizes}
use Rattle.cm_pool.specs.FreeSpace.{FreeSpace, IsUsedChunk, with_chunk}
use Rattle.cm_layout.specs.declared.row.Row.{Row}
use Rattle.cm_layout.specs.Rows.{classes_in, slots_of_row, slots_of_rows}
use Rattle.cm_layout.proofs.{slots-append}
use Rattle.cm_index.specs.declared.slot.BookSlot.{BookSlot}
use Rattle.cm_index.specs.Living.{living}
use Rattle.cm_rows.specs.Held.{chunks_of_rows, PoolHolds, first_chunks, own_chunk}
use Rattle.cm_rows.proofs.Holding.{give-back}
use Rattle.cm_rows.proofs.Giving.{classes-append, first-append, firsts-some, firsts-none}

module _ {X : Type 0} where
  -- what lives before a place and after it
  pub record Around (slots : List (BookSlot X)) (i : ℕ) (s x : BookSlot X) : Type 0 where
    pub front : List X
    pub rest : List X
    pub was : living slots ≡ front ++ s.item ∷ rest
    pub is : living (set slots i x) ≡ front ++ rest

  pub around : (slots : List (BookSlot X)) (i : ℕ) (s x : BookSlot X) → slice_get slots i ≡ Some s
      → s.live ≡ true → x.live ≡ false → Around slots i s x
  around [] i s x there live dead = absurd (cc)
  around (z ∷ slots) zero s x there live dead =
      let is : z ≡ s = cc in
      record {
        front = [];
        rest = living slots;
        was = ap (λ (t : BookSlot X). cond t.live (t.item ∷ living slots) (living slots)) is
            ∙ ap (λ (b : Bool). cond b (s.item ∷ living slots) (living slots)) live;
        is = ap (λ (b : Bool). cond b (x.item ∷ living slots) (living slots)) dead;
      }
  around (z ∷ slots) (suc i) s x there live dead =
      by_test z.live (around slots i s x there live dead) refl
    where
      by_test : (t : Bool) → Around slots i s x → z.live ≡ t → Around (z ∷ slots) (suc i) s x
      by_test true a e = record {
        front = z.item ∷ a.front;
        rest = a.rest;
        was = ap (λ (b : Bool). cond b (z.item ∷ living slots) (living slots)) e
            ∙ ap (λ l. z.item ∷ l) a.was;
        is = ap (λ (b : Bool). cond b (z.item ∷ living (set slots i x)) (living (set slots i x))) e
            ∙ ap (λ l. z.item ∷ l) a.is;
      }
      by_test false a e = record {
        front = a.front;
        rest = a.rest;
        was = ap (λ (b : Bool). cond b (z.item ∷ living slots) (living slots)) e ∙ a.was;
        is = ap (λ (b : Bool). cond b (z.item ∷ living (set slots i x)) (living (set slots i x))) e
            ∙ a.is;
      }

  pub fewer-ended : (slots : List (BookSlot X)) (i : ℕ) (s x : BookSlot X) → slice_get slots i
      ≡ Some s
      → s.live ≡ true → x.live ≡ false → length (living (set slots i x)) + 1 ≡ length (living slots)
  fewer-ended slots i s x there live dead =
      let a = around slots i s x there live dead in
      omega (
        arith,
        ap length a.was,
        ap length a.is,
        length-append a.front (s.item ∷ a.rest),
        length-append a.front a.rest,
      )

module _ {P : Type 0} where
  pub less-ended : (slots : List (BookSlot (Row P))) (i : ℕ) (s x : BookSlot (Row P))
      → slice_get slots i ≡ Some s → s.live ≡ true → x.live ≡ false
      → slots_of_rows (living (set slots i x)) + slots_of_row s.item ≡ slots_of_rows (living slots)
  less-ended slots i s x there live dead =
      let a = around slots i s x there live dead in
      omega (
        arith,
        ap (λ l. slots_of_rows l) a.was,
        ap (λ l. slots_of_rows l) a.is,
        slots-append a.front (s.item ∷ a.rest),
        slots-append a.front a.rest,
      )

  firsts-append : (rows more : List (Row P)) → chunks_of_rows (rows ++ more)
      ≡ chunks_of_rows rows ++ chunks_of_rows more
  firsts-append rows more = ap first_chunks (classes-append rows more)
      ∙ first-append (classes_in rows) (classes_in more)

  pub ended-gives : (sizes : Sizes) (p : FreeSpace) (slots : List (BookSlot (Row P))) (i : ℕ)
      (s x : BookSlot (Row P)) (c : Chunk)
      → slice_get slots i ≡ Some s → s.live ≡ true → x.live ≡ false → own_chunk s.item ≡ Some c
      → PoolHolds sizes p (chunks_of_rows (living slots))
      → IsUsedChunk p c × PoolHolds sizes (with_chunk p c)
      (chunks_of_rows (living (set slots i x)))
  ended-gives sizes p slots i s x c there live dead own h =
      let a = around slots i s x there live dead in
      let parts : chunks_of_rows (living slots)
      ≡ chunks_of_rows a.front ++ c ∷ chunks_of_rows a.rest =
      ap chunks_of_rows a.was ∙ firsts-append a.front (s.item ∷ a.rest)
      ∙ ap (λ l. chunks_of_rows a.front ++ l) (firsts-some s.item a.rest c own) in
      let given = give-back sizes p (chunks_of_rows a.front) c (chunks_of_rows a.rest)
      (subst (λ (l : List Chunk). PoolHolds sizes p l) parts h) in (
        given.0,
        subst (λ (l : List Chunk). PoolHolds sizes (with_chunk p c) l)
            (sym (ap chunks_of_rows a.is
            ∙ firsts-append a.front a.rest)) given.1,
      )

  pub ended-keeps : (sizes : Sizes) (p : FreeSpace) (slots : List (BookSlot (Row P))) (i : ℕ)
      (s x : BookSlot (Row P))
      → slice_get slots i ≡ Some s → s.live ≡ true → x.live ≡ false → own_chunk s.item ≡ None
      → PoolHolds sizes p (chunks_of_rows (living slots))
      → PoolHolds sizes p (chunks_of_rows (living (set slots i x)))
  ended-keeps sizes p slots i s x there live dead own h =
      let a = around slots i s x there live dead in
      let parts : chunks_of_rows (living slots) ≡ chunks_of_rows a.front ++ chunks_of_rows a.rest =
      ap chunks_of_rows a.was ∙ firsts-append a.front (s.item ∷ a.rest)
      ∙ ap (λ l. chunks_of_rows a.front ++ l) (firsts-none s.item a.rest own) in
      subst (λ (l : List Chunk). PoolHolds sizes p l) (parts
      ∙ sym (ap chunks_of_rows a.is ∙ firsts-append a.front a.rest)) h

-- an item at a place within a list is among the list
pub get-at : {X : Type 0} (xs : List X) (i : ℕ) (d : X) → i < length xs
    → slice_get xs i ≡ Some (get_or xs i d)
get-at [] i d lt = absurd (omega arith)
get-at (x ∷ xs) zero d lt = refl
get-at (x ∷ xs) (suc i) d lt = get-at xs i d (omega arith)
