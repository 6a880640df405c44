-- The invariant of every space holds after each change.
-- For `Space::add_loader`, `Space::adopt`, `Space::learn` and others.
use Rattle.std.proofs.Common.{◌≡◌, ◌≢◌, ℕ, ◌≤◌, Bool, true, false, cond, List, [], ◌∷◌, ◌++◌}
use Rattle.std.proofs.Common.{Option, Some, None, refl, sym, ap, ◌∙◌, IsSome, subst, append-nil}
use Rattle.std.proofs.Common.{length, arith}
use Rattle.std.specs.Prelude.{unwrap_or}
use Rattle.std.specs.List.{AllByRecursion}
use Rattle.std.specs.Ordering.{nat_cmp, is_eq}
use Rattle.std.specs.Cmp.{nat_cmp_total}
use Rattle.std.specs.FinMap as map
use Rattle.cm_pool.specs.declared.chunk.Chunk.{Chunk}
use Rattle.cm_pool.specs.Chunks.{Meets}
use Rattle.cm_pool.specs.Geometry.{Sizes}
use Rattle.cm_pool.specs.FreeSpace.{FreeSpace, IsUsedChunk}
use Rattle.cm_pool.specs.Held.{AreHeld, NoneIsLost}
use Rattle.cm_pool.specs.Lists.{Pairwise}
use Rattle.cm_pool.proofs.{each-back, each-join, pairs-back}
use Rattle.cm_arena.specs.Chains.{Filled, chain_chunks}
use Rattle.cm_space.specs.Space.{SpaceState, WaitingChunks, IsKnown, arena_of, with_arena, left_by}
use Rattle.cm_space.specs.Space.{left_by_all, waiting_chunks}
use Rattle.cm_space.specs.Space.{learnt, empty_space, due, not_due}
use Rattle.cm_space.specs.Ownership.{IsSpace, held_chunks, owned_chunks}
use Rattle.cm_space.proofs.Lists.{pairs-push}
use Rattle.cm_space.proofs.Alike.{alike-same, alike-then, alike-trade, alike-behind}
use Rattle.cm_space.proofs.Arenas.{owned, of_others, insert-back, had-out, none-others}
use Rattle.cm_space.proofs.Arenas.{remove-others, same_key}
use Rattle.cm_space.proofs.Giving.{held-given, kept-given, due-parts, rises-not_due, chunks-append}

-- what others hold beside one arena
abbrev pub beside : SpaceState → ℕ → List Chunk
beside s k = of_others s.arenas k ++ waiting_chunks s.waiting

-- a change of one arena and of the pool that leaves what others hold
pub record KeepsOthers (old : FreeSpace) (chain : List Filled) (new : FreeSpace)
    (next : List Filled) : Type 0 where
  pub held : (rest : List Chunk) → AreHeld old (chain_chunks chain ++ rest)
      → AreHeld new (chain_chunks next ++ rest)
  pub kept : (rest : List Chunk) → AreHeld old (chain_chunks chain ++ rest)
      → NoneIsLost old (chain_chunks chain ++ rest) → NoneIsLost new (chain_chunks next ++ rest)

pub taken-apart : (s : SpaceState) (k : ℕ) (chain : List Filled) → map.get s.arenas k ≡ Some chain
    → IsSpace s → AreHeld s.pool (chain_chunks chain ++ beside s k)
taken-apart s k chain had h =
    (had-out s.arenas k chain (waiting_chunks s.waiting) had).held s.pool [] h.held

pub changed : (s : SpaceState) (k : ℕ) (chain next : List Filled) (p : FreeSpace)
    → map.get s.arenas k ≡ Some chain → IsSpace s → KeepsOthers s.pool chain p next
    → IsSpace (record (with_arena s k next) { pool = p })
changed s k chain next p had h keeps =
    let out = had-out s.arenas k chain (waiting_chunks s.waiting) had in
    let back = insert-back s.arenas k next (waiting_chunks s.waiting) in
    let apart = out.held s.pool [] h.held in
    record {
      held = back.held p [] (keeps.held (beside s k) apart);
      none_lost = back.kept p [] (keeps.kept (beside s k) apart (out.kept s.pool [] h.none_lost));
      rises = h.rises;
    }

-- one more arena, with no chunk
pub added : (s : SpaceState) (k : ℕ) → map.get s.arenas k ≡ None → IsSpace s
    → IsSpace (with_arena s k [])
added s k none h =
    let back = insert-back s.arenas k [] (waiting_chunks s.waiting) in
    let same =
    ap (λ (cs : List Chunk). cs ++ waiting_chunks s.waiting)
    (sym (none-others s.arenas k none)) in
    record {
      held = back.held s.pool [] (subst (λ (cs : List Chunk). AreHeld s.pool cs) same h.held);
      none_lost =
          back.kept s.pool [] (subst (λ (cs : List Chunk). NoneIsLost s.pool cs) same h.none_lost);
      rises = h.rises;
    }

-- one arena fewer, whose chunks wait
pub left : (s : SpaceState) (n k : ℕ) → IsKnown s k
    → AllByRecursion (λ (w : WaitingChunks). w.number ≤ n) s.waiting → IsSpace s
    → IsSpace (left_by s n k)
left s n k known last h =
    let mine = chain_chunks (arena_of s k) in
    let ws = waiting_chunks s.waiting in
    let w : WaitingChunks = record { number = n; chunks = mine } in
    let rest : owned (map.remove s.arenas k) ≡ of_others s.arenas k =
    ap owned_chunks (remove-others s.arenas k) in
    let behind : waiting_chunks (s.waiting ++ w ∷ []) ≡ ws ++ (mine ++ []) =
    chunks-append s.waiting (w ∷ []) in
    let moved = alike-then _ _ _ (had-out s.arenas k (arena_of s k) ws (known-had s k known))
    (alike-then _ _ _ (alike-same _ _
    (ap (λ cs. mine ++ (of_others s.arenas k ++ cs)) (sym (append-nil ws))))
    (alike-then _ _ _ (alike-trade mine (of_others s.arenas k) (ws ++ []))
    (alike-then _ _ _ (alike-behind (of_others s.arenas k) _ _ (alike-trade mine ws []))
    (alike-same _ _ (λ i. sym rest i ++ sym behind i))))) in
    record {
      held = moved.held s.pool [] h.held;
      none_lost = moved.kept s.pool [] h.none_lost;
      rises = pairs-push (λ (v w : WaitingChunks). v.number ≤ w.number) s.waiting w h.rises last;
    }
  where
    known-had : (s : SpaceState) (k : ℕ) → IsKnown s k → map.get s.arenas k ≡ Some (arena_of s k)
    known-had s k known = by_answer (map.get s.arenas k) known
      where
        by_answer : (o : Option (List Filled)) → IsSome o → o ≡ Some (unwrap_or o [])
        by_answer (Some chain) h = refl
        by_answer None h = absurd (cc)

-- the others still have their arenas
pub known-behind : (s : SpaceState) (n u : ℕ) (us : List ℕ) → AllByRecursion (λ v. u ≢ v) us
    → AllByRecursion (IsKnown s) us → AllByRecursion (IsKnown (left_by s n u)) us
known-behind s n u [] differ known = tt
known-behind s n u (v ∷ us) differ known = (
  subst (λ o. IsSome o) (sym (get-left v differ.0)) known.0,
  known-behind s n u us differ.1 known.1,
)
  where
    get-left : (v : ℕ) → u ≢ v → map.get (left_by s n u).arenas v ≡ map.get s.arenas v
    get-left v other =
        map.get-remove nat_cmp_total s.arenas u v ∙ by_test (is_eq (nat_cmp v u)) refl
      where
        by_test : (t : Bool) → is_eq (nat_cmp v u) ≡ t
            → cond t None (map.get s.arenas v) ≡ map.get s.arenas v
        by_test true e = absurd (other (sym (same_key v u e)))
        by_test false e = refl

-- several arenas fewer, one after another
pub left-all : (s : SpaceState) (n : ℕ) (us : List ℕ) → AllByRecursion (IsKnown s) us
    → Pairwise (λ u v. u ≢ v) us → AllByRecursion (λ (w : WaitingChunks). w.number ≤ n) s.waiting
    → IsSpace s → IsSpace (left_by_all s n us)
left-all s n [] known differ last h = h
left-all s n (u ∷ us) known differ last h =
    left-all (left_by s n u) n us (known-behind s n u us differ.0 known.1) differ.1
    (each-join (λ (w : WaitingChunks). w.number ≤ n) s.waiting _ last (omega arith, tt))
    (left s n u known.0 last h)

-- an arena and the pool changed, and the old chunk waits after the others
pub tightened : (s : SpaceState) (k : ℕ) (chain next : List Filled) (p : FreeSpace) (from : Chunk)
    (n : ℕ) → map.get s.arenas k ≡ Some chain
    → AllByRecursion (λ (w : WaitingChunks). w.number ≤ n) s.waiting → IsSpace s
    → ((rest : List Chunk) → AreHeld s.pool (chain_chunks chain ++ rest)
    → AreHeld p (chain_chunks next ++ from ∷ rest))
    → ((rest : List Chunk) → NoneIsLost s.pool (chain_chunks chain ++ rest)
    → NoneIsLost p (chain_chunks next ++ from ∷ rest))
    → IsSpace (record (with_arena s k next) {
      pool = p;
      waiting = s.waiting ++ record { number = n; chunks = from ∷ [] } ∷ [];
    })
tightened s k chain next p from n had last h held kept =
    let mine = chain_chunks next in
    let theirs = of_others s.arenas k in
    let ws = waiting_chunks s.waiting in
    let w : WaitingChunks = record { number = n; chunks = from ∷ [] } in
    let out = had-out s.arenas k chain ws had in
    let behind : waiting_chunks (s.waiting ++ w ∷ []) ≡ ws ++ from ∷ [] =
    chunks-append s.waiting (w ∷ []) in
    let moved = alike-then _ _ _ (alike-behind mine _ _
    (alike-then _ _ _ (alike-trade (from ∷ []) theirs ws)
    (alike-behind theirs _ _
    (alike-then _ _ _ (alike-same _ _ (ap (λ cs. from ∷ cs) (sym (append-nil ws))))
    (alike-then _ _ _ (alike-trade (from ∷ []) ws []) (alike-same _ _ (sym behind)))))))
    (insert-back s.arenas k next (waiting_chunks (s.waiting ++ w ∷ []))) in
    record {
      held = moved.held p [] (held (beside s k) (out.held s.pool [] h.held));
      none_lost = moved.kept p [] (kept (beside s k) (out.kept s.pool [] h.none_lost));
      rises = pairs-push (λ (v w : WaitingChunks). v.number ≤ w.number) s.waiting w h.rises last;
    }

-- the chunks that are due are freed
pub learned : (s : SpaceState) (n : ℕ) → IsSpace s → IsSpace (learnt s n)
learned s n h =
    let front = owned s.arenas in
    let gone = waiting_chunks (due n s.waiting) in
    let stay = waiting_chunks (not_due n s.waiting) in
    let parts : front ++ waiting_chunks s.waiting ≡ front ++ (gone ++ stay) =
    ap (λ cs. front ++ cs) (ap waiting_chunks (due-parts n s.waiting h.rises)
    ∙ chunks-append (due n s.waiting) (not_due n s.waiting)) in
    let held = subst (λ (cs : List Chunk). AreHeld s.pool cs) parts h.held in
    record {
      held = held-given s.pool front gone stay held;
      none_lost =
          kept-given s.pool front gone stay held
          (subst (λ (cs : List Chunk). NoneIsLost s.pool cs) parts h.none_lost);
      rises = rises-not_due n s.waiting h.rises;
    }

-- nothing is held if there are no roots
pub none : (sizes : Sizes) → IsSpace (empty_space sizes)
none sizes =
    let entries : map.entries (empty_space sizes).arenas ≡ [] =
    no_entries _ (sym (map.len-entries (empty_space sizes).arenas)
    ∙ map.len-empty nat_cmp (List Filled)) in
    let chunks : held_chunks (empty_space sizes) ≡ [] = ap (λ es. owned_chunks es ++ []) entries in
    record {
      held = subst (λ (cs : List Chunk). AreHeld (empty_space sizes).pool cs) (sym chunks)
          (record { each = tt; apart = tt });
      none_lost = record { each = λ root word present within. absurd (omega (arith, present)) };
      rises = tt;
    }
  where
    no_entries : {A : Type 0} (es : List A) → length es ≡ 0 → es ≡ []
    no_entries [] e = refl
    no_entries (x ∷ es) e = absurd (omega arith)

-- the waiting chunks are held by themselves
pub waiting-held : (s : SpaceState) → IsSpace s → AreHeld s.pool (waiting_chunks s.waiting)
waiting-held s h = record {
  each = each-back (IsUsedChunk s.pool) (owned s.arenas) (waiting_chunks s.waiting) h.held.each;
  apart = pairs-back (λ a b. ¬ Meets a b) (owned s.arenas) (waiting_chunks s.waiting) h.held.apart;
}
