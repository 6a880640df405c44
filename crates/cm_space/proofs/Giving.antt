-- Chunks are freed, and the others stay held.
-- For `free_due`, `give_all`.
use Rattle.std.proofs.Common.{◌≡◌, ℕ, ◌<◌, ◌≤◌, Bool, true, false, cond, List, [], ◌∷◌, ◌++◌, refl}
use Rattle.std.proofs.Common.{sym, ap, ◌∙◌, ◌+◌, subst, append_assoc, arith, length, drop, get_or}
use Rattle.std.proofs.Common.{◌↔◌}
use Rattle.std.specs.Prelude.{nat_le, nat_lt}
use Rattle.std.specs.List.{AllByRecursion}
use Rattle.std.proofs.lemmas.Grind.{common_steps}
use Rattle.std.proofs.lemmas.List.{drop_more}
use Rattle.cm_pool.specs.declared.chunk.Chunk.{Chunk}
use Rattle.cm_pool.specs.Chunks.{Meets}
use Rattle.cm_pool.specs.FreeSpace.{FreeSpace, IsUsedChunk, with_chunk}
use Rattle.cm_pool.specs.Held.{AreHeld, NoneIsLost}
use Rattle.cm_pool.specs.Lists.{Pairwise}
use Rattle.cm_pool.proofs.{none_lost-given, each-front, pairs-front}
use Rattle.cm_pool.proofs.SpaceLaws.{held_is_given}
use Rattle.cm_space.specs.Space.{WaitingChunks, with_chunks, waiting_chunks, due, not_due, IsLater}

pub with_chunks-append : (p : FreeSpace) (cs ds : List Chunk)
    → with_chunks p (cs ++ ds) ≡ with_chunks (with_chunks p cs) ds
with_chunks-append p [] ds = refl
with_chunks-append p (c ∷ cs) ds = with_chunks-append (with_chunk p c) cs ds

pub held-given : (p : FreeSpace) (front cs back : List Chunk) → AreHeld p (front ++ (cs ++ back))
    → AreHeld (with_chunks p cs) (front ++ back)
held-given p front [] back h = h
held-given p front (c ∷ cs) back h =
    held-given (with_chunk p c) front cs back (held_is_given p front c (cs ++ back) h).1

pub kept-given : (p : FreeSpace) (front cs back : List Chunk) → AreHeld p (front ++ (cs ++ back))
    → NoneIsLost p (front ++ (cs ++ back)) → NoneIsLost (with_chunks p cs) (front ++ back)
kept-given p front [] back h kept = kept
kept-given p front (c ∷ cs) back h kept =
    let given = held_is_given p front c (cs ++ back) h in
    kept-given (with_chunk p c) front cs back given.1
    (none_lost-given p front c (cs ++ back) kept given.0)

abbrev pub Rises : List WaitingChunks → Type 0
Rises ws = Pairwise (λ (v w : WaitingChunks). v.number ≤ w.number) ws

pub chunks-append : (vs ws : List WaitingChunks)
    → waiting_chunks (vs ++ ws) ≡ waiting_chunks vs ++ waiting_chunks ws
chunks-append [] ws = refl
chunks-append (v ∷ vs) ws = ap
    (λ (cs : List Chunk). v.chunks ++ cs) (chunks-append vs ws)
    ∙ sym (append_assoc v.chunks (waiting_chunks vs) (waiting_chunks ws))

-- ---- which are due

-- nothing is due if each waits for a greater number
pub record NoneDue (n : ℕ) (ws : List WaitingChunks) : Type 0 where
  pub none : due n ws ≡ []
  pub all : not_due n ws ≡ ws

is_due : (n m : ℕ) → m ≤ n → (nat_le m n ≡ true) × (nat_lt n m ≡ false)
is_due n m h = grind (arith, common_steps)

pub is_due-true : (n m : ℕ) → (nat_le m n ≡ true) ↔ (m ≤ n)
is_due-true n m = (λ e. grind (arith, common_steps, e), λ h. grind (arith, common_steps))

isnt_due : (n m : ℕ) → n < m → (nat_le m n ≡ false) × (nat_lt n m ≡ true)
isnt_due n m h = grind (arith, common_steps)

pub none_due : (n : ℕ) (ws : List WaitingChunks)
    → AllByRecursion (λ (w : WaitingChunks). n < w.number) ws
    → NoneDue n ws
none_due n [] h = record { none = refl; all = refl }
none_due n (w ∷ ws) h =
    let rest = none_due n ws h.1 in
    let e = isnt_due n w.number h.0 in
    record { none = rw (e.0) rest.none; all = rw (e.1) (ap (λ l. w ∷ l) rest.all) }

above : (n : ℕ) (w : WaitingChunks) (ws : List WaitingChunks) → n < w.number
    → AllByRecursion (λ (v : WaitingChunks). w.number ≤ v.number) ws
    → AllByRecursion (λ (v : WaitingChunks). n < v.number) ws
above n w [] lt h = tt
above n w (v ∷ vs) lt h = (omega (arith, h.0), above n w vs lt h.1)

pub later-none_due : (n : ℕ) (ws : List WaitingChunks) → Rises ws → IsLater n ws → NoneDue n ws
later-none_due n [] rises later = record { none = refl; all = refl }
later-none_due n (w ∷ ws) rises later = none_due n (w ∷ ws) (later, above n w ws later rises.0)

-- the oldest is due
pub due-first : (n : ℕ) (w : WaitingChunks) (ws : List WaitingChunks) → w.number ≤ n
    → (due n (w ∷ ws) ≡ w ∷ due n ws) × (not_due n (w ∷ ws) ≡ not_due n ws)
due-first n w ws h = let e = is_due n w.number h in (rw (e.0) refl, rw (e.1) refl)

-- chunks that are due come before the others
pub due-parts : (n : ℕ) (ws : List WaitingChunks) → Rises ws → ws ≡ due n ws ++ not_due n ws
due-parts n [] rises = refl
due-parts n (w ∷ ws) rises = by_test (nat_le w.number n) refl (due-parts n ws rises.1)
  where
    by_test : (t : Bool) → nat_le w.number n ≡ t → ws ≡ due n ws ++ not_due n ws
        → w ∷ ws ≡ due n (w ∷ ws) ++ not_due n (w ∷ ws)
    by_test true e rest =
        let first = due-first n w ws (grind (arith, common_steps, e)) in
        ap (λ l. w ∷ l) rest ∙ (λ i. sym first.0 i ++ sym first.1 i)
    by_test false e rest =
        let later : n < w.number = grind (arith, common_steps, e) in
        let none = none_due n (w ∷ ws) (later, above n w ws later rises.0) in
        λ i. sym none.none i ++ sym none.all i

pub rises-not_due : (n : ℕ) (ws : List WaitingChunks) → Rises ws → Rises (not_due n ws)
rises-not_due n [] rises = tt
rises-not_due n (w ∷ ws) rises =
    let rest = rises-not_due n ws rises.1 in
    elim (nat_lt n w.number) as (λ b. Rises (cond b (w ∷ not_due n ws) (not_due n ws))) [
      | true ↦ (all-kept n (λ (v : WaitingChunks). w.number ≤ v.number) ws rises.0, rest)
      | false ↦ rest
    ]
  where
    all-kept : (n : ℕ) (P : WaitingChunks → Type 0) (ws : List WaitingChunks) → AllByRecursion P ws
        → AllByRecursion P (not_due n ws)
    all-kept n P [] h = tt
    all-kept n P (v ∷ vs) h =
        elim (nat_lt n v.number) as
        (λ b. AllByRecursion P (cond b (v ∷ not_due n vs) (not_due n vs))) [
          | true ↦ (h.0, all-kept n P vs h.1)
          | false ↦ all-kept n P vs h.1
        ]

-- ---- one step of a walk over chunks

pub drop-held : (p : FreeSpace) (cs : List Chunk) (i : ℕ) (d : Chunk) → i < length cs
    → AreHeld p (drop i cs) → AreHeld (with_chunk p (get_or cs i d)) (drop (i + 1) cs)
drop-held p cs i d lt h = (held_is_given p [] (get_or cs i d) (drop (i + 1) cs)
    (subst (λ (l : List Chunk). AreHeld p l) (drop_more cs i d lt) h)).1

pub drop-given : (p : FreeSpace) (cs : List Chunk) (i : ℕ) (d : Chunk) → i < length cs
    → with_chunks p (drop i cs) ≡ with_chunks (with_chunk p (get_or cs i d)) (drop (i + 1) cs)
drop-given p cs i d lt = ap (with_chunks p) (drop_more cs i d lt)

-- ---- one step of a walk over waiting chunks

-- what is known of what is left while the oldest chunks are freed
pub record IsUnderWay (n : ℕ) (p : FreeSpace) (ws : List WaitingChunks) (q : FreeSpace)
    (vs : List WaitingChunks) : Type 0 where
  pub held : AreHeld q (waiting_chunks vs)
  pub rises : Rises vs
  pub pool : with_chunks q (waiting_chunks (due n vs)) ≡ with_chunks p (waiting_chunks (due n ws))
  pub waiting : not_due n vs ≡ not_due n ws

pub way-first : {n : ℕ} {p q : FreeSpace} {ws vs us : List WaitingChunks} {w : WaitingChunks}
    → IsUnderWay n p ws q vs
    → vs ≡ w ∷ us → AreHeld q w.chunks
way-first {n} {p} {q} {ws} {vs} {us} {w} way e =
    let held = subst (λ l. AreHeld q (waiting_chunks l)) e way.held in
    record {
      each = each-front (IsUsedChunk q) w.chunks (waiting_chunks us) held.each;
      apart = pairs-front (λ a b. ¬ Meets a b) w.chunks (waiting_chunks us) held.apart;
    }

pub way-more : {n : ℕ} {p q : FreeSpace} {ws vs us : List WaitingChunks} {w : WaitingChunks}
    → IsUnderWay n p ws q vs
    → vs ≡ w ∷ us → w.number ≤ n → IsUnderWay n p ws (with_chunks q w.chunks) us
way-more {n} {p} {q} {ws} {vs} {us} {w} way e small =
    let first = due-first n w us small in
    record {
      held = held-given q [] w.chunks (waiting_chunks us)
          (subst (λ l. AreHeld q (waiting_chunks l)) e way.held);
      rises = (subst Rises e way.rises).1;
      pool = sym (with_chunks-append q w.chunks (waiting_chunks (due n us)))
          ∙ ap (λ l. with_chunks q (waiting_chunks l)) (sym first.0)
          ∙ ap (λ l. with_chunks q (waiting_chunks (due n l))) (sym e) ∙ way.pool;
      waiting = sym first.1 ∙ ap (not_due n) (sym e) ∙ way.waiting;
    }

pub way-end : {n : ℕ} {p q : FreeSpace} {ws vs : List WaitingChunks} → IsUnderWay n p ws q vs
    → IsLater n vs
    → (q ≡ with_chunks p (waiting_chunks (due n ws))) × (vs ≡ not_due n ws)
way-end {n} {p} {q} {ws} {vs} way later =
    let none = later-none_due n vs way.rises later in (
      ap (λ l. with_chunks q (waiting_chunks l)) (sym none.none) ∙ way.pool,
      sym none.all ∙ way.waiting,
    )
