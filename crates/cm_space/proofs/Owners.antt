-- Who holds which chunk, from the lists of chunks.
-- On `WaitingChunks`, `waiting_chunks`, `SpaceState`.
use Rattle.std.proofs.Common.{◌≡◌, ℕ, Bool, true, false, cond, not, T, List, [], ◌∷◌, ◌++◌}
use Rattle.std.proofs.Common.{Some, None, refl, sym, ap, ◌∙◌, subst, inl, inr}
use Rattle.std.specs.Prelude.{unwrap_or}
use Rattle.std.specs.Ordering.{nat_cmp, is_eq, is_lt}
use Rattle.std.specs.Cmp.{nat_cmp_total, eq_by_cmp_equiv}
use Rattle.std.specs.FinMap as map
use Rattle.std.specs.FinMap.Entries.{find, below_all, is_sorted}
use Rattle.cm_pool.specs.declared.chunk.Chunk.{Chunk}
use Rattle.cm_pool.specs.Chunks.{Meets}
use Rattle.cm_pool.specs.FreeSpace.{IsUsedChunk}
use Rattle.cm_pool.specs.Lists.{Pairwise, Among}
use Rattle.cm_pool.proofs.{meets-turned, each-among, pairs-back, pairs-front, pairs-among}
use Rattle.cm_pool.proofs.{among-left, among-right, among-append}
use Rattle.cm_arena.specs.Chains.{Filled, chain_chunks}
use Rattle.cm_space.specs.Space.{SpaceState, WaitingChunks, waiting_chunks}
use Rattle.cm_space.specs.Ownership.{Owns, WaitsFor, owned_chunks, held_chunks}
use Rattle.cm_space.specs.Laws.{OneOwner, OneNumber, OwnedOrWaiting, OwnedIsUsed, WaitingIsUsed}
use Rattle.cm_space.specs.Laws.{EachWord}
use Rattle.cm_space.proofs.Lists.{pairs-across}
use Rattle.cm_space.proofs.Arenas.{Entries, others, first, second, less, same_key, of_others}
use Rattle.cm_space.proofs.Spaces.{taken-apart}

abbrev Apart : Chunk → Chunk → Type 0
Apart a b = ¬ Meets a b

one_of : (cs : List Chunk) (c d : Chunk) → Pairwise Apart cs → Among c cs → Among d cs → Meets c d
    → c ≡ d
one_of cs c d apart m n meets =
    elim (pairs-among Apart cs c d apart m n) [
      | inl e ↦ e
      | inr (inl far) ↦ absurd (far meets)
      | inr (inr far) ↦ absurd (far (meets-turned c d meets))
    ]

-- an owner has a chain
pub owner-had : (s : SpaceState) (k : ℕ) (c : Chunk) → Owns s k c → (chain : List Filled)
    × (map.get s.arenas k ≡ Some chain) × Among c (chain_chunks chain)
owner-had s k c own =
    elim (map.get s.arenas k) as (λ o. Among c (chain_chunks (unwrap_or o []))
    → (chain : List Filled) × (o ≡ Some chain) × Among c (chain_chunks chain)) [
      | None ↦ λ none. absurd none
      | Some chain ↦ λ m. (chain, refl, m)
    ] own

find-owned : (es : Entries) (j : ℕ) (chain : List Filled) (d : Chunk)
    → find nat_cmp j es ≡ Some chain → Among d (chain_chunks chain) → Among d (owned_chunks es)
find-owned [] j chain d found m = absurd (cc)
find-owned (e ∷ es) j chain d found m =
    by_test (is_eq (nat_cmp j e.0)) (find-owned es j chain d) found
  where
    by_test : (t : Bool) → (find nat_cmp j es ≡ Some chain → Among d (chain_chunks chain)
        → Among d (owned_chunks es)) → cond t (Some e.1) (find nat_cmp j es) ≡ Some chain
        → Among d (chain_chunks e.1 ++ owned_chunks es)
    by_test true rest f =
        let same : e.1 ≡ chain = cc in among-left d (chain_chunks e.1) (owned_chunks es) (subst
        (λ (l : List Filled). Among d (chain_chunks l)) (sym same) m)
    by_test false rest f = among-right d (chain_chunks e.1) (owned_chunks es) (rest f m)

find-others : (k : ℕ) (es : Entries) (j : ℕ) (chain : List Filled) (d : Chunk)
    → find nat_cmp j es ≡ Some chain → is_eq (nat_cmp k j) ≡ false → Among d (chain_chunks chain)
    → Among d (owned_chunks (others k es))
find-others k [] j chain d found apart m = absurd (cc)
find-others k (e ∷ es) j chain d found apart m =
    by_test (is_eq (nat_cmp j e.0)) refl (find-others k es j chain d) found
  where
    by_key : (t : Bool) → Among d (owned_chunks (others k es))
        → Among d (owned_chunks (cond t (e ∷ others k es) (others k es)))
    by_key true n = among-right d (chain_chunks e.1) (owned_chunks (others k es)) n
    by_key false n = n

    by_test : (t : Bool) → is_eq (nat_cmp j e.0) ≡ t
        → (find nat_cmp j es ≡ Some chain → is_eq (nat_cmp k j) ≡ false
        → Among d (chain_chunks chain)
        → Among d (owned_chunks (others k es)))
        → cond t (Some e.1) (find nat_cmp j es) ≡ Some chain
        → Among d (owned_chunks (cond (not (is_eq (nat_cmp k e.0))) (e ∷ others k es)
        (others k es)))
    by_test true is rest f =
        let same : e.1 ≡ chain = cc in
        let key : is_eq (nat_cmp k e.0) ≡ false =
        ap (λ q. is_eq (nat_cmp k q)) (sym (same_key j e.0 is)) ∙ apart in
        subst (λ b. Among d (owned_chunks (cond (not b) (e ∷ others k es) (others k es)))) (sym key)
        (among-left d (chain_chunks e.1) (owned_chunks (others k es))
        (subst (λ (l : List Filled). Among d (chain_chunks l)) (sym same) m))
    by_test false is rest f = by_key (not (is_eq (nat_cmp k e.0))) (rest f apart m)

find-none : (x : ℕ) (es : Entries) → T (below_all nat_cmp x es) → find nat_cmp x es ≡ None
find-none x [] h = refl
find-none x (e ∷ es) h =
    ap (λ r. cond (is_eq r) (Some e.1) (find nat_cmp x es))
    (less (nat_cmp x e.0) (first (is_lt (nat_cmp x e.0)) _ h))
    ∙ find-none x es (second (is_lt (nat_cmp x e.0)) _ h)

-- a chunk of the entries has an owner
owned-find : (es : Entries) (c : Chunk) → T (is_sorted nat_cmp es) → Among c (owned_chunks es)
    → (k : ℕ) × (chain : List Filled) × (find nat_cmp k es ≡ Some chain)
    × Among c (chain_chunks chain)
owned-find [] c sorted m = absurd m
owned-find (e ∷ es) c sorted m =
    elim (among-append c (chain_chunks e.1) (owned_chunks es) m) [
      | inl mine ↦ (
        e.0,
        e.1,
        ap (λ b. cond b (Some e.1) (find nat_cmp e.0 es))
            ((eq_by_cmp_equiv nat_cmp_total).refl e.0),
        mine,
      )
      | inr behind ↦
          let found = owned-find es c (second (below_all nat_cmp e.0 es) _ sorted) behind in (
            found.0,
            found.1,
            later found.0 found.1 (first (below_all nat_cmp e.0 es) _ sorted)
                found.2 (is_eq (nat_cmp found.0 e.0)) refl,
            found.3,
          )
    ]
  where
    later : (k : ℕ) (chain : List Filled) → T (below_all nat_cmp e.0 es)
        → find nat_cmp k es ≡ Some chain → (t : Bool) → is_eq (nat_cmp k e.0) ≡ t
        → cond t (Some e.1) (find nat_cmp k es) ≡ Some chain
    later k chain below found true is =
        let none : find nat_cmp k es ≡ None =
        ap (λ q. find nat_cmp q es) (same_key k e.0 is) ∙ find-none e.0 es below in
        absurd (cc)
    later k chain below found false is = found

-- a chunk that waits is in the list of waiting chunks
pub waits-among : (ws : List WaitingChunks) (w : WaitingChunks) (c : Chunk) → Among w ws
    → Among c w.chunks
    → Among c (waiting_chunks ws)
waits-among [] w c none m = absurd none
waits-among (v ∷ ws) w c (inl e) m = among-left c v.chunks (waiting_chunks ws) (subst
    (λ (u : WaitingChunks). Among c u.chunks) e m)
waits-among (v ∷ ws) w c (inr n) m =
    among-right c v.chunks (waiting_chunks ws) (waits-among ws w c n m)

pub among-waits : (ws : List WaitingChunks) (c : Chunk) → Among c (waiting_chunks ws)
    → (w : WaitingChunks)
    × Among w ws × Among c w.chunks
among-waits [] c m = absurd m
among-waits (v ∷ ws) c m =
    elim (among-append c v.chunks (waiting_chunks ws) m) [
      | inl mine ↦ (v, inl refl, mine)
      | inr behind ↦ let found = among-waits ws c behind in (found.0, inr found.1, found.2)
    ]

one_wait : (ws : List WaitingChunks) (v w : WaitingChunks) (c d : Chunk)
    → Pairwise Apart (waiting_chunks ws)
    → Among v ws → Among w ws → Among c v.chunks → Among d w.chunks → Meets c d
    → (v.number ≡ w.number) × (c ≡ d)
one_wait [] v w c d apart none n in_v in_w meets = absurd none
one_wait (x ∷ xs) v w c d apart (inl e) (inl f) in_v in_w meets = (
  ap (λ (u : WaitingChunks). u.number) (e ∙ sym f),
  one_of x.chunks c d (pairs-front Apart x.chunks (waiting_chunks xs) apart)
      (subst (λ (u : WaitingChunks). Among c u.chunks) e in_v)
      (subst (λ (u : WaitingChunks). Among d u.chunks) f in_w) meets,
)
one_wait (x ∷ xs) v w c d apart (inl e) (inr n) in_v in_w meets =
    absurd (pairs-across Apart x.chunks (waiting_chunks xs) c d apart (subst
    (λ (u : WaitingChunks). Among c u.chunks) e in_v) (waits-among xs w d n in_w) meets)
one_wait (x ∷ xs) v w c d apart (inr m) (inl f) in_v in_w meets =
    absurd (pairs-across Apart x.chunks (waiting_chunks xs) d c apart (subst
    (λ (u : WaitingChunks). Among d u.chunks) f in_w) (waits-among xs v c m in_v)
    (meets-turned c d meets))
one_wait (x ∷ xs) v w c d apart (inr m) (inr n) in_v in_w meets =
    one_wait xs v w c d (pairs-back Apart x.chunks (waiting_chunks xs) apart) m n in_v in_w meets

-- ---- the laws

owned-among : (s : SpaceState) (k : ℕ) (c : Chunk) → Owns s k c
    → Among c (owned_chunks (map.entries s.arenas))
owned-among s k c own =
    let had = owner-had s k c own in
    find-owned (map.entries s.arenas) k had.0 c (sym (map.get-entries s.arenas k) ∙ had.1) had.2

waiting-among : (s : SpaceState) (n : ℕ) (c : Chunk) → WaitsFor s n c
    → Among c (waiting_chunks s.waiting)
waiting-among s n c waits = waits-among s.waiting waits.0 c waits.1 waits.3

pub one_owner : OneOwner
one_owner s h k j c d mine his meets =
    let had = owner-had s k c mine in
    let got = owner-had s j d his in
    let apart = (taken-apart s k had.0 had.1 h).apart in
    by_key (is_eq (nat_cmp k j)) refl had got apart
  where
    by_key : (t : Bool) → is_eq (nat_cmp k j) ≡ t
        → (had : (chain : List Filled) × (map.get s.arenas k ≡ Some chain)
        × Among c (chain_chunks chain))
        → (got : (chain : List Filled) × (map.get s.arenas j ≡ Some chain)
        × Among d (chain_chunks chain))
        → Pairwise Apart (chain_chunks had.0 ++ (of_others s.arenas k ++ waiting_chunks s.waiting))
        → (k ≡ j) × (c ≡ d)
    by_key true is had got apart =
        let key = same_key k j is in
        let same_chain : Some had.0 ≡ Some got.0 = sym had.1 ∙ ap (map.get s.arenas) key ∙ got.1 in
        let same : had.0 ≡ got.0 = cc in (
          key,
          one_of (chain_chunks had.0) c d
              (pairs-front Apart (chain_chunks had.0)
              (of_others s.arenas k ++ waiting_chunks s.waiting)
              apart) had.2
              (subst (λ (l : List Filled). Among d (chain_chunks l)) (sym same) got.2) meets,
        )
    by_key false is had got apart =
        let rest = of_others s.arenas k ++ waiting_chunks s.waiting in
        let behind = among-left d (of_others s.arenas k) (waiting_chunks s.waiting)
        (find-others k (map.entries s.arenas) j got.0 d (sym (map.get-entries s.arenas j) ∙ got.1)
        is got.2) in
        absurd (pairs-across Apart (chain_chunks had.0) rest c d apart had.2 behind meets)

pub one_number : OneNumber
one_number s h n m c d mine his meets =
    let apart =
    pairs-back Apart (owned_chunks (map.entries s.arenas)) (waiting_chunks s.waiting)
    h.held.apart in
    let same = one_wait s.waiting mine.0 his.0 c d apart mine.1 his.1 mine.3 his.3 meets in
    (sym mine.2 ∙ same.0 ∙ his.2, same.1)

pub owned_or_waiting : OwnedOrWaiting
owned_or_waiting s h k n c d own waits meets =
    pairs-across Apart (owned_chunks (map.entries s.arenas)) (waiting_chunks s.waiting) c d
    h.held.apart (owned-among s k c own) (waiting-among s n d waits) meets

pub owned_is_used : OwnedIsUsed
owned_is_used s h k c own = each-among (IsUsedChunk s.pool) (held_chunks s) c h.held.each
    (among-left c (owned_chunks (map.entries s.arenas)) (waiting_chunks s.waiting)
    (owned-among s k c own))

pub waiting_is_used : WaitingIsUsed
waiting_is_used s h n c waits = each-among (IsUsedChunk s.pool) (held_chunks s) c h.held.each
    (among-right c (owned_chunks (map.entries s.arenas)) (waiting_chunks s.waiting)
    (waiting-among s n c waits))

pub each_word : EachWord
each_word s h root word present within =
    elim (h.none_lost.each root word present within) [
      | inl free ↦ inl free
      | inr held ↦ inr (elim (among-append held.0 (owned_chunks (map.entries s.arenas))
          (waiting_chunks s.waiting) held.1) [
            | inl owned ↦
                let found =
                owned-find (map.entries s.arenas) held.0 (map.entries_sorted s.arenas) owned in
                let is : map.get s.arenas found.0 ≡ Some found.1 =
                map.get-entries s.arenas found.0 ∙ found.2 in
                inl (
                  found.0,
                  held.0,
                  subst (λ o. Among held.0 (chain_chunks (unwrap_or o []))) (sym is)
                      found.3,
                  held.2,
                )
            | inr waits ↦
                let found = among-waits s.waiting held.0 waits in
                inr (found.0.number, held.0, (found.0, found.1, refl, found.2), held.2)
          ])
    ]
