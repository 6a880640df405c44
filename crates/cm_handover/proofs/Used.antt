-- The words of rows' chunks aren't free, and none waits for a number that the rows have.
-- For `ahead_stays_ahead`, `commands_follow_the_machine`, `committed_rows_are_the_machines` and
-- others.
use Rattle.std.proofs.Common.{◌≡◌, ℕ, ◌+◌, ◌<◌, ◌≤◌, List, [], ◌∷◌, inl, inr, refl, sym}
use Rattle.std.proofs.Common.{subst, arith, Bool, true, false, cond}
use Rattle.std.specs.Prelude.{◌⊎◌, nat_lt}
use Rattle.cm_pool.specs.declared.chunk.Chunk.{Chunk}
use Rattle.cm_pool.specs.Chunks.{Covers, IsBlock, chunk_size}
use Rattle.cm_pool.specs.FreeSpace.{FreeSpace, IsFreeChunk, IsUsedChunk, IsFreeWord, without}
use Rattle.cm_pool.specs.FreeSpace.{with_chunk, with_root}
use Rattle.cm_pool.specs.Lists.{Among}
use Rattle.cm_pool.specs.SpaceLaws.{TakenIsHeld, RootsKeepHeld}
use Rattle.cm_arena.specs.Chains.{Filled, chain_chunks}
use Rattle.cm_arena.specs.Placing.{Fetches}
use Rattle.cm_layout.specs.declared.class_row.ClassRow.{ClassRow}
use Rattle.cm_layout.specs.Rows.{classes_in, bare}
use Rattle.cm_layout.proofs.{classes-bare}
use Rattle.cm_space.specs.Space.{SpaceState, WaitingChunks, learnt, with_chunks, waiting_chunks}
use Rattle.cm_space.specs.Space.{due}
use Rattle.cm_space.specs.Space.{not_due}
use Rattle.cm_space.specs.Ownership.{Owns, WaitsFor}
use Rattle.cm_space.specs.Laws.{OwnedIsUsed, OwnedOrWaiting, LearningFreesDue}
use Rattle.cm_front.specs.Laws.{ChainsHaveChunks}
use Rattle.cm_front.specs.Front.{FrontState, IsFront}
use Rattle.cm_front.proofs.{used-with-root}
use Rattle.cm_handover.specs.Ahead.{AreUsed, UseNoneDue}
use Rattle.cm_handover.proofs.Following.{WordRows}

-- ---- of an accepted cache

pub owned : ChainsHaveChunks → (s : FrontState) → IsFront s → (r : ClassRow)
    → Among r (classes_in s.rows) → Owns s.space r.loader r.place.chunk
owned chains s f r m =
    subst (λ (chain : List Filled). Among r.place.chunk (chain_chunks chain))
    (sym (f.space.chains r.loader))
    (chains (bare s.rows) r (subst (λ l. Among r l) (sym (classes-bare s.rows)) m))

pub front_uses : ChainsHaveChunks → OwnedIsUsed → (s : FrontState) → IsFront s
    → AreUsed s.space.pool s.rows
front_uses chains used s f r m =
    used s.space f.space.is r.loader r.place.chunk (owned chains s f r m)

pub front_due : ChainsHaveChunks → OwnedOrWaiting → (s : FrontState) (n : ℕ) → IsFront s
    → UseNoneDue s.space.waiting n s.rows
front_due chains apart s n f w c at to among r m =
    apart s.space f.space.is r.loader w.number r.place.chunk c (owned chains s f r m)
    (w, at, refl, among)

-- ---- of a pool without a chunk

pub used_without : TakenIsHeld → (p : FreeSpace) (c d : Chunk) → IsFreeChunk p c → IsUsedChunk p d
    → IsUsedChunk (without p c) d
used_without held p c d free used =
    (held p [] c (d ∷ []) (record { each = (used, tt); apart = (tt, tt) }) free).each.1.0

pub used_fetched : TakenIsHeld → RootsKeepHeld → (old : FreeSpace) (wanted need : ℕ) (c : Chunk)
    (new : FreeSpace) → Fetches old wanted need c new → (d : Chunk) → IsUsedChunk old d
    → IsUsedChunk new d
used_fetched held roots old wanted need c new f d used =
    elim f [
      | inl first ↦
          subst (λ p. IsUsedChunk p d) (sym first.left) (used_without held old c d first.first.free
          used)
      | inr (inl needed) ↦
          subst (λ p. IsUsedChunk p d) (sym needed.left)
          (used_without held old c d needed.first.free used)
      | inr (inr root) ↦
          subst (λ p. IsUsedChunk p d) (sym root.left)
          (used_without held (with_root old) c d root.first.free (used-with-root roots old d used))
    ]

-- ---- once a number is learnt

same_sizes : (p : FreeSpace) (cs : List Chunk) → (with_chunks p cs).geometry ≡ p.geometry
same_sizes p [] = refl
same_sizes p (c ∷ cs) = same_sizes (with_chunk p c) cs

same_roots : (p : FreeSpace) (cs : List Chunk) → (with_chunks p cs).roots ≡ p.roots
same_roots p [] = refl
same_roots p (c ∷ cs) = same_roots (with_chunk p c) cs

pub used_once_learnt : LearningFreesDue → (s : FrontState) (m n : ℕ) (rows : WordRows) → IsFront s
    → m ≤ n → AreUsed s.space.pool rows → UseNoneDue s.space.waiting n rows
    → AreUsed (learnt s.space m).pool rows
used_once_learnt frees s m n rows f to used none r among = record {
  block = block;
  words = λ word from end free. still word from end
      ((frees s.space f.space.is m r.place.chunk.root word).0 free);
}
  where
    freed : List Chunk
    freed = waiting_chunks (due m s.space.waiting)

    is_used : IsUsedChunk s.space.pool r.place.chunk
    is_used = used r among

    block : IsBlock (learnt s.space m).pool.geometry.top (learnt s.space m).pool.roots r.place.chunk
    block =
        subst (λ g. IsBlock g.top (learnt s.space m).pool.roots r.place.chunk)
        (sym (same_sizes s.space.pool freed))
        (subst (λ roots. IsBlock s.space.pool.geometry.top roots r.place.chunk)
        (sym (same_roots s.space.pool freed)) is_used.block)

    still : (word : ℕ) → r.place.chunk.at ≤ word
        → word < r.place.chunk.at + chunk_size r.place.chunk.order
        → IsFreeWord s.space.pool r.place.chunk.root word
        ⊎ ((number : ℕ) × (c : Chunk) × (number ≤ m) × WaitsFor s.space number c
        × Covers c r.place.chunk.root word)
        → ⊥
    still word from end (inl free) = is_used.words word from end free
    still word from end (inr (number, c, small, waits, covers)) =
        none waits.0 c waits.1
        (let is = waits.2 in omega (arith, small, to, is)) waits.3 r among
        (r.place.chunk.root, word, record { same_root = refl; from = from; to = end }, covers)

among_later : (m : ℕ) (w : WaitingChunks) (ws : List WaitingChunks) → Among w (not_due m ws)
    → Among w ws
among_later m w [] h = h
among_later m w (v ∷ ws) h = by_test (λ k. among_later m w ws k) (nat_lt m v.number) h
  where
    by_test : (Among w (not_due m ws) → Among w ws) → (t : Bool)
        → Among w (cond t (v ∷ not_due m ws) (not_due m ws)) → Among w (v ∷ ws)
    by_test rest true (inl e) = inl e
    by_test rest true (inr h) = inr (rest h)
    by_test rest false h = inr (rest h)

pub due_once_learnt : (s : SpaceState) (m n : ℕ) (rows : WordRows)
    → UseNoneDue s.waiting n rows → UseNoneDue (learnt s m).waiting n rows
due_once_learnt s m n rows none w c at to among r among_rows =
    none w c (among_later m w s.waiting at) to among r among_rows
