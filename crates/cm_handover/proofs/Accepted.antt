-- A command that is accepted: one more entry that waits to be stored.
-- For `ahead_stays_ahead`.
use Rattle.std.proofs.Common.{◌≡◌, ℕ, ◌+◌, ◌≤◌, Bool, true, false, cond, List, []}
use Rattle.std.proofs.Common.{◌∷◌, ◌++◌, length, Some, inl, inr, refl, sym}
use Rattle.std.proofs.Common.{ap}
use Rattle.std.proofs.Common.{subst, ◌∙◌, arith, append_assoc, append-nil}
use Rattle.std.specs.Prelude.{◌⊎◌, ◌&&◌, nat_le}
use Rattle.std.specs.List.{flat_map}
use Rattle.std.specs.Option.{option_map_or}
use Rattle.std.proofs.lemmas.List.{length-append}
use Rattle.cm_pool.specs.declared.chunk.Chunk.{Chunk}
use Rattle.cm_pool.specs.Chunks.{same_chunk}
use Rattle.cm_pool.specs.FreeSpace.{FreeSpace, IsUsedChunk, without}
use Rattle.cm_pool.specs.Lists.{Among}
use Rattle.cm_pool.specs.SpaceLaws.{TakenIsHeld, RootsKeepHeld}
use Rattle.cm_arena.specs.Chains.{Filled, chain_chunks, last_of}
use Rattle.cm_arena.specs.Placing.{Fetches, order_wanted}
use Rattle.cm_layout.specs.declared.class_row.ClassRow.{ClassRow}
use Rattle.cm_layout.specs.declared.row.Row.TheVariants.{Loader, Class}
use Rattle.cm_layout.specs.declared.entry.Entry.{Entry}
use Rattle.cm_layout.specs.declared.move_entry.Move.{Move}
use Rattle.cm_layout.specs.declared.entry.Entry.TheVariants as entry
use Rattle.cm_layout.specs.Rows.{rows_after, bare, classes_in, last_chunk, used_words}
use Rattle.cm_layout.specs.Rules.{is_last_chunk, is_unused}
use Rattle.cm_layout.specs.Frames.{AreApart}
use Rattle.cm_layout.proofs.{classes-bare, apart-unused}
use Rattle.cm_group.specs.Groups.{Carried, Handed, slots_taken, group_limit}
use Rattle.cm_space.specs.Space.{SpaceState, WaitingChunks, arena_of, left_by, left_by_all}
use Rattle.cm_space.specs.Laws.{OwnedIsUsed, OwnedOrWaiting}
use Rattle.cm_state.specs.State.{words_show}
use Rattle.cm_state.specs.Entries.{MayFollow}
use Rattle.cm_state.specs.Laws.{EntriesAreSteps}
use Rattle.cm_commit.specs.Offers.{filled, HasRecords, writes_apart, rows_after_group}
use Rattle.cm_front.specs.Chains.{chain_of}
use Rattle.cm_front.specs.Laws.{ChainsEndAtTop, ChainsHaveChunks}
use Rattle.cm_front.specs.Front.{FrontState, IsFront}
use Rattle.cm_front.specs.Accepting.{FrontAccepts, SpaceAfter, accepted, carried, joined_by}
use Rattle.cm_front.proofs.{some-top, fetched_free, free-apart}
use Rattle.cm_handover.specs.Ahead.{AllFollow, AtEach, AllApart, AreUsed, UseNoneDue}
use Rattle.cm_handover.specs.Ahead.{pending, IsAhead}
use Rattle.cm_handover.specs.Handover.{AcceptedIsAhead}
use Rattle.cm_handover.proofs.Following.{WordRows, rows_after_two, follow_two, at_one_more}
use Rattle.cm_handover.proofs.Following.{at_each_also}
use Rattle.cm_handover.proofs.Following.{apart_one_more}
use Rattle.cm_handover.proofs.Tops.{GoesOnTop, tops_apart, or_left, used_in}
use Rattle.cm_handover.proofs.Used.{front_uses, front_due, used_fetched, used_without}

-- ---- the entry that waits

pub filled_again : (rows : WordRows) (e : Entry (List ℕ)) → filled (carried rows e) ≡ e
filled_again rows e = refl

has_records : (s : FrontState) (e : Entry (List ℕ))
    → MayFollow words_show s.sizes s.number s.rows e
    → HasRecords s.rows (carried s.rows e).entry (carried s.rows e).moved
has_records s (entry.Live (Loader r)) may = (tt, refl)
has_records s (entry.Live (Class r words)) may = (may.new.1, refl)
has_records s (entry.Unload e) may = (tt, refl)
has_records s (entry.Move e) may = (tt, refl)
has_records s (entry.UnloadAll e) may = (tt, refl)

joined_last : (n : ℕ) (groups : List Handed) (c : Carried)
    → flat_map (λ (g : Handed). g.entries) (joined_by n groups c)
    ≡ flat_map (λ (g : Handed). g.entries) groups ++ c ∷ []
joined_last n [] c = refl
joined_last n (g ∷ []) c = by_room (nat_le (slots_taken (g.entries ++ c ∷ [])) group_limit)
  where
    by_room : (t : Bool)
        → flat_map (λ (h : Handed). h.entries)
        (cond t (record { first = g.first; learnt = g.learnt; entries = g.entries ++ c ∷ [] } ∷ [])
        (g ∷ record { first = n; learnt = 0; entries = c ∷ [] } ∷ []))
        ≡ (g.entries ++ []) ++ c ∷ []
    by_room true =
        append-nil (g.entries ++ c ∷ []) ∙ ap (λ (l : List Carried). l ++ c ∷ []) (sym (append-nil
        g.entries))
    by_room false = ap (λ (l : List Carried). l ++ c ∷ []) (sym (append-nil g.entries))
joined_last n (g ∷ h ∷ groups) c =
    ap (λ l. g.entries ++ l) (joined_last n (h ∷ groups) c)
    ∙ sym (append_assoc g.entries (flat_map (λ (k : Handed). k.entries) (h ∷ groups)) (c ∷ []))

pub pending_accepted : (out : List Carried) (s : FrontState) (e : Entry (List ℕ))
    (space : SpaceState)
    → pending out (accepted s e space) ≡ pending out s ++ carried s.rows e ∷ []
pending_accepted out s e space =
    ap (λ l. out ++ l) (joined_last (s.number + 1) s.unsealed (carried s.rows e))
    ∙ sym (append_assoc out (flat_map (λ (g : Handed). g.entries) s.unsealed)
    (carried s.rows e ∷ []))

-- ---- where a class is put

on_top : ChainsEndAtTop → (s : FrontState) (r : ClassRow) → IsFront s
    → last_of (arena_of s.space r.loader)
    ≡ Some (record { chunk = r.place.chunk; used = r.place.offset })
    → GoesOnTop s.rows r
on_top tops s r f e =
    let apart : AreApart (classes_in (bare s.rows)) =
    subst (λ l. AreApart l) (sym (classes-bare s.rows)) f.rows.apart in
    let here : last_of (chain_of r.loader (bare s.rows))
    ≡ Some (record { chunk = r.place.chunk; used = r.place.offset }) =
    subst (λ (l : List Filled). last_of l
    ≡ Some (record { chunk = r.place.chunk; used = r.place.offset })) (f.space.chains r.loader) e in
    let top = some-top r.loader (bare s.rows) r.place.chunk r.place.offset
    (sym (tops s.sizes s.number (bare s.rows) f.rows.live apart r.loader) ∙ here) in
    record {
      last = subst (λ (l : List ClassRow).
          option_map_or (λ (last : Chunk). same_chunk last r.place.chunk) (last_chunk r.loader l)
          false
          ≡ true) (classes-bare s.rows) top.0;
      behind = subst (λ (l : List ClassRow). r.place.offset ≡ used_in r.place.chunk l)
          (classes-bare s.rows) top.1;
    }

-- a chunk that is fetched isn't used at any number before
fetched_each : RootsKeepHeld → (s : FrontState) (r : ClassRow) (words : ℕ) (new : FreeSpace)
    (wanted need : ℕ) → IsFront s → Fetches s.space.pool wanted need r.place.chunk new
    → (at : WordRows) → AreUsed s.space.pool at
    → writes_apart at (entry.Live (Class r (tt {0}))) ≡ true
fetched_each roots s r words new wanted need f fetches at used =
    or_left (is_unused r.place.chunk at)
    (is_last_chunk r.loader r.place.chunk at
    && nat_le (used_words r.place.chunk at) r.place.offset)
    (apart-unused r.place.chunk (classes_in at)
    (λ d m. (fetched_free roots s.space.pool wanted need r.place.chunk new f.space.pool
    fetches).apart
    d.place.chunk (used d m)))

-- ---- what an entry's space keeps

-- the pool that a move leaves
left_pool : (s : FrontState) (e : Move) (new : SpaceState) → SpaceAfter s (entry.Move e) new
    → new.pool ≡ without s.space.pool e.to
left_pool s e new after = ap (λ (t : SpaceState). t.pool) after.after ∙ after.tightens.left_is

-- loaders that are unloaded take no words
pool_left : (s : SpaceState) (number : ℕ) (us : List ℕ)
    → (left_by_all s number us).pool ≡ s.pool
pool_left s number [] = refl
pool_left s number (u ∷ us) = pool_left (left_by s number u) number us

-- words that weren't free aren't free after it
used_kept : TakenIsHeld → RootsKeepHeld → (s : FrontState) (e : Entry (List ℕ)) (new : SpaceState)
    → SpaceAfter s e new → (d : Chunk) → IsUsedChunk s.space.pool d → IsUsedChunk new.pool d
used_kept held roots s (entry.Live (Loader r)) new after d used =
    subst (λ (t : SpaceState). IsUsedChunk t.pool d) (sym after) used
used_kept held roots s (entry.Live (Class r words)) new after d used =
    elim after.0 [
      | inl top ↦ subst (λ p. IsUsedChunk p d) (sym top.1) used
      | inr fetched ↦
          used_fetched held roots s.space.pool
          (order_wanted fetched.need (length (arena_of s.space r.loader)) s.space.pool.geometry.top)
          fetched.need r.place.chunk new.pool fetched.fetches d used
    ]
used_kept held roots s (entry.Unload e) new after d used =
    subst (λ (t : SpaceState). IsUsedChunk t.pool d) (sym after) used
used_kept held roots s (entry.Move e) new after d used =
    subst (λ p. IsUsedChunk p d) (sym (left_pool s e new after))
    (used_without held s.space.pool e.to d after.tightens.may.first.free used)
used_kept held roots s (entry.UnloadAll e) new after d used =
    subst (λ p. IsUsedChunk p d)
    (sym (ap (λ (t : SpaceState). t.pool) after ∙ pool_left s.space (s.number + 1) e.loaders)) used

among_last : (ws : List WaitingChunks) (v w : WaitingChunks) → Among w (ws ++ v ∷ [])
    → Among w ws ⊎ (w ≡ v)
among_last [] v w (inl e) = inr e
among_last [] v w (inr none) = absurd none
among_last (x ∷ ws) v w (inl e) = inl (inl e)
among_last (x ∷ ws) v w (inr rest) =
    elim (among_last ws v w rest) [ inl old ↦ inl (inr old) | inr e ↦ inr e ]

-- what is left with the next number waits for no number that earlier rows have
one_later : (number : ℕ) (waiting : List WaitingChunks) (chunks : List Chunk) (k : ℕ)
    (at : WordRows)
    → k ≤ number → UseNoneDue waiting k at
    → UseNoneDue (waiting ++ record { number = number + 1; chunks = chunks } ∷ []) k at
one_later number waiting chunks k at to none w c among small in_w r in_rows =
    elim (among_last waiting _ w among) [
      | inl old ↦ none w c old small in_w r in_rows
      | inr is ↦
          let later : w.number ≡ number + 1 = ap (λ (v : WaitingChunks). v.number) is in
          absurd (omega (arith, later, small, to))
    ]

all_later : (number : ℕ) (us : List ℕ) (s : SpaceState) (k : ℕ) (at : WordRows)
    → k ≤ number → UseNoneDue s.waiting k at
    → UseNoneDue (left_by_all s (number + 1) us).waiting k at
all_later number [] s k at to none = none
all_later number (u ∷ us) s k at to none =
    all_later number us (left_by s (number + 1) u) k at to
    (one_later number s.waiting (chain_chunks (arena_of s u)) k at to none)

-- what waits, waits for no number that earlier rows have, except for what waited before
due_kept : (s : FrontState) (e : Entry (List ℕ)) (new : SpaceState) → SpaceAfter s e new → (k : ℕ)
    (at : WordRows) → k ≤ s.number → UseNoneDue s.space.waiting k at → UseNoneDue new.waiting k at
due_kept s (entry.Live (Loader r)) new after k at to none =
    subst (λ (t : SpaceState). UseNoneDue t.waiting k at) (sym after) none
due_kept s (entry.Live (Class r words)) new after k at to none =
    subst (λ (l : List WaitingChunks). UseNoneDue l k at)
    (sym (ap (λ (t : SpaceState). t.waiting) after.1))
    none
due_kept s (entry.Unload e) new after k at to none =
    subst (λ (t : SpaceState). UseNoneDue t.waiting k at) (sym after)
    (one_later s.number s.space.waiting (chain_chunks (arena_of s.space e.loader)) k at to none)
due_kept s (entry.Move e) new after k at to none =
    subst (λ (t : SpaceState). UseNoneDue t.waiting k at) (sym after.after)
    (one_later s.number s.space.waiting (e.from ∷ []) k at to none)
due_kept s (entry.UnloadAll e) new after k at to none =
    subst (λ (t : SpaceState). UseNoneDue t.waiting k at) (sym after)
    (all_later s.number e.loaders s.space k at to none)

-- ---- apart from all earlier rows

-- a fact that has no conditions
at_all : (P Q : ℕ → WordRows → Type 0) (n : ℕ) (rows : WordRows) (a : List Carried)
    → ((k : ℕ) (at : WordRows) → P k at → Q k at) → AtEach P n rows a → AtEach Q n rows a
at_all P Q n rows a f h = at_each_also P Q n rows a (λ k at from to. f k at) h

-- What is used of the facts about spaces, chunks and rows.
pub record Known : Type 0 where
  pub tops : ChainsEndAtTop
  pub chunks : ChainsHaveChunks
  pub held : TakenIsHeld
  pub roots : RootsKeepHeld
  pub owned : OwnedIsUsed
  pub apart : OwnedOrWaiting
  pub steps : EntriesAreSteps (List ℕ)

entry_apart : Known → (rows : WordRows) (number : ℕ) (out : List Carried) (s : FrontState)
    (e : Entry (List ℕ)) (new : SpaceState) → IsFront s → IsAhead rows number out s
    → SpaceAfter s e new
    → AtEach (λ k at. writes_apart at (carried s.rows e).entry ≡ true) number rows (pending out s)
entry_apart known rows number out s (entry.Live (Loader r)) new f a after =
    at_all (λ n at. AreUsed s.space.pool at) (λ k at. true ≡ true) number rows (pending out s)
    (λ k at h. refl) a.used
entry_apart known rows number out s (entry.Live (Class r words)) new f a after =
    elim after.0 [
      | inl top ↦
          tops_apart known.steps s.sizes number rows (pending out s) r a.cache a.follow a.apart
          (let is = a.numbers in let to = f.numbers in omega (arith, is, to))
          (subst (λ l. GoesOnTop l r) (sym a.rows_are) (on_top known.tops s r f top.0.last))
      | inr fetched ↦
          at_all (λ n at. AreUsed s.space.pool at)
          (λ k at. writes_apart at (entry.Live (Class r (tt {0}))) ≡ true) number rows (pending out
          s)
          (λ k at h. fetched_each known.roots s r (length words) new.pool
          (order_wanted fetched.need (length (arena_of s.space r.loader)) s.space.pool.geometry.top)
          fetched.need f fetched.fetches at h) a.used
    ]
entry_apart known rows number out s (entry.Unload e) new f a after =
    at_all (λ n at. AreUsed s.space.pool at) (λ k at. true ≡ true) number rows (pending out s)
    (λ k at h. refl) a.used
entry_apart known rows number out s (entry.Move e) new f a after =
    at_all (λ n at. AreUsed s.space.pool at) (λ k at. is_unused e.to at ≡ true) number rows
    (pending out s)
    (λ k at h. apart-unused e.to (classes_in at) (λ d m.
    free-apart s.space.pool e.to d.place.chunk after.tightens.may.first.free (h d m)))
    a.used
entry_apart known rows number out s (entry.UnloadAll e) new f a after =
    at_all (λ n at. AreUsed s.space.pool at) (λ k at. true ≡ true) number rows (pending out s)
    (λ k at h. refl) a.used

-- ---- one more command

accepted_ahead : Known → (rows : WordRows) (number : ℕ) (out : List Carried) (s : FrontState)
    (e : Entry (List ℕ)) (space : SpaceState) → IsFront s → IsFront (accepted s e space)
    → IsAhead rows number out s → MayFollow words_show s.sizes s.number s.rows e
    → SpaceAfter s e space → IsAhead rows number out (accepted s e space)
accepted_ahead known rows number out s e space f g a may after = record {
  cache = a.cache;
  numbers =
      let is = a.numbers in
      let long = ap length longer in
      let more = length-append before (carried s.rows e ∷ []) in
      omega (arith, is, long, more);
  sealed = a.sealed;
  learnt = a.learnt;
  rows_are = ap (rows_after_group rows) longer ∙ last_rows;
  follow = subst (λ l. AllFollow s.sizes rows number l) (sym longer)
      (follow_two s.sizes rows number before (carried s.rows e ∷ []) a.follow
      (last_follows.0, last_follows.1, tt));
  apart = subst (λ l. AllApart rows l) (sym longer)
      (apart_one_more number rows before (carried s.rows e) a.apart
      (entry_apart known rows number out s e space f a after));
  used = subst (λ l. AtEach (λ n at. AreUsed space.pool at) number rows l) (sym longer)
      (at_one_more (λ n at. AreUsed space.pool at) number rows before (carried s.rows e)
      (at_all (λ n at. AreUsed s.space.pool at) (λ n at. AreUsed space.pool at) number rows before
      (λ k at h r m. used_kept known.held known.roots s e space after r.place.chunk (h r m)) a.used)
      (subst (λ l. AreUsed space.pool l) (sym next_rows) (front_uses known.chunks known.owned _
      g)));
  due = subst (λ l. AtEach (UseNoneDue space.waiting) number rows l) (sym longer)
      (at_one_more (UseNoneDue space.waiting) number rows before (carried s.rows e)
      (at_each_also (UseNoneDue s.space.waiting) (UseNoneDue space.waiting) number rows before
      (λ k at from to h. due_kept s e space after k at (let is = a.numbers in omega (
        arith,
        is,
        to,
      )) h)
      a.due)
      (subst (λ l. UseNoneDue space.waiting (number + length before + 1) l) (sym next_rows)
      (front_due known.chunks known.apart _ (number + length before + 1) g)));
}
  where
    before : List Carried
    before = pending out s

    longer : pending out (accepted s e space) ≡ pending out s ++ carried s.rows e ∷ []
    longer = pending_accepted out s e space

    next_rows : rows_after (rows_after_group rows (pending out s)) (filled (carried s.rows e))
        ≡ rows_after s.rows e
    next_rows =
        ap (λ l. rows_after l (filled (carried s.rows e))) a.rows_are
        ∙ ap (rows_after s.rows) (filled_again s.rows e)

    last_rows : rows_after_group rows (pending out s ++ carried s.rows e ∷ []) ≡ rows_after s.rows e
    last_rows = rows_after_two rows (pending out s) (carried s.rows e ∷ []) ∙ next_rows

    last_follows : MayFollow words_show s.sizes (number + length (pending out s))
        (rows_after_group rows (pending out s)) (filled (carried s.rows e))
        × HasRecords (rows_after_group rows (pending out s)) (carried s.rows e).entry
        (carried s.rows e).moved
    last_follows = (
      subst (λ n. MayFollow words_show s.sizes n (rows_after_group rows (pending out s))
          (filled (carried s.rows e))) (sym a.numbers)
          (subst (λ l. MayFollow words_show s.sizes s.number l (filled (carried s.rows e))) (sym
          a.rows_are)
          (subst (λ d. MayFollow words_show s.sizes s.number s.rows d)
          (sym (filled_again s.rows e)) may)),
      subst (λ l. HasRecords l (carried s.rows e).entry (carried s.rows e).moved) (sym a.rows_are)
          (has_records s e may),
    )

pub accepted_is_ahead : Known → AcceptedIsAhead
accepted_is_ahead known rows number out s new change n f g a answer =
    let is : FrontAccepts s change n new = answer.2 in
    subst (λ t. IsAhead rows number out t) (sym is.after)
    (accepted_ahead known rows number out s is.entry new.space f
    (subst (λ t. IsFront t) is.after g) a is.may is.space)
