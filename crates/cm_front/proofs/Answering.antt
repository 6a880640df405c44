-- What an accepted cache returns, and its state afterwards.
-- For `Front::add_loader`, `Front::define`, `Front::unload`.
use Rattle.std.proofs.Common.{◌≡◌, ℕ, ◌+◌, ◌^◌, ◌<◌, ◌≤◌, Bool, true, false, cond, List, [], ◌∷◌}
use Rattle.std.proofs.Common.{arith, length, Option, Some, None, inl, inr, refl, sym, ap, subst}
use Rattle.std.proofs.Common.{◌∙◌, ◌≢◌, eqb}
use Rattle.std.specs.Prelude.{not, is_none, Result, Ok, Err, IsTrue, ◌↔◌}
use Rattle.std.specs.List.{AllByRecursion, list_all}
use Rattle.std.specs.Option.{option_map}
use Rattle.cm_arena.specs.Placing.{IsFull, Places}
use Rattle.cm_arena.specs.Tightening.{IsTight}
use Rattle.cm_arena.specs.declared.refusal.PlaceRefusal.{PlaceRefusal}
use Rattle.cm_arena.specs.declared.refusal.PlaceRefusal.TheVariants as of_place
use Rattle.cm_pool.specs.declared.chunk.Chunk.{Chunk}
use Rattle.cm_pool.specs.Chunks.{chunk_size}
use Rattle.cm_pool.specs.Geometry.{Sizes}
use Rattle.cm_pool.specs.Lists.{Pairwise}
use Rattle.cm_record.specs.Layout.{lay}
use Rattle.cm_group.specs.Groups.{IsRightRecord}
use Rattle.std.proofs.lemmas.Bool.{ltb-false, eq-eqb, and_parts}
use Rattle.cm_layout.specs.declared.entry.Entry.{Entry}
use Rattle.cm_layout.specs.declared.entry.Entry.TheVariants as entry
use Rattle.cm_layout.specs.declared.row.Row.TheVariants.{Loader, Class}
use Rattle.cm_layout.specs.Rows.{rows_after, number_of, numbers_in}
use Rattle.cm_layout.specs.Laws.{LoadersAreOwn}
use Rattle.cm_layout.specs.declared.entry_rule.EntryRule.{EntryRule}
use Rattle.cm_layout.specs.Rules.{broken_rule, is_live, are_live, differ}
use Rattle.cm_rows.specs.Rows.{LiveRows, is_above}
use Rattle.cm_pool.specs.FreeSpace.{IsFreeSpace}
use Rattle.cm_space.specs.Space.{SpaceState, WaitingChunks, IsKnown, arena_of, with_arena}
use Rattle.cm_pool.specs.declared.place.Place.{Place}
use Rattle.cm_space.specs.Ownership.{IsSpace}
use Rattle.cm_state.specs.Step.{Change, Define, Unload, Tighten, UnloadAll}
use Rattle.cm_state.specs.State.{words_show}
use Rattle.cm_state.specs.Entries.{MayFollow, change_of}
use Rattle.cm_state.specs.Laws.{EntriesAreSteps}
use Rattle.cm_commands.specs.declared.refusal.Refusal.{Refusal}
use Rattle.cm_commands.specs.declared.refusal.Refusal.TheVariants as refusal
use Rattle.cm_front.specs.Unsealed.{WaitingGroups, EndBefore, Follow}
use Rattle.cm_front.specs.Front.{FrontState, IsFront, IsDueLater, front_of, first_refusal}
use Rattle.cm_front.specs.Accepting.{FrontAnswers, FrontAccepts, HasNoChunk, accepted, carried}
use Rattle.cm_front.specs.Accepting.{joined_by, SpaceAfter, refusal_of_chunk}
use Rattle.cm_front.specs.Refusing.{class_asked, refusal_of_place}
use Rattle.cm_front.specs.Laws.{PlacesKeepRules}
use Rattle.cm_front.proofs.GoingsClass.{name_is, number_lives, keeps_class}
use Rattle.cm_front.proofs.NameNumbers.{are_found}
use Rattle.cm_front.proofs.Causes.{IsMade, IsAsked, AreAsked, IsFree, refused}
use Rattle.cm_front.proofs.RowFacts.{all_below}
use Rattle.cm_front.proofs.Goings.{past, Keeps, goes_on, keeps_loader, not_last}

-- ---- the value

-- of what isn't handed out only the groups matter
pub same_groups : (book : LiveRows (List ℕ)) (space : SpaceState) (old new : WaitingGroups)
    (number sealed learnt : ℕ) (broken closed : Bool) → new.groups ≡ old.groups
    → front_of book space new number sealed learnt broken closed
    ≡ front_of book space old number sealed learnt broken closed
same_groups book space old new number sealed learnt broken closed e = λ i. record {
  sizes = book.sizes;
  rows = book.rows;
  number = number;
  sealed = sealed;
  learnt = learnt;
  unsealed = e i;
  space = space;
  broken = broken;
  closed = closed;
}

-- the cache is unchanged if its space and its groups are
pub unchanged : (book : LiveRows (List ℕ)) (space left : SpaceState) (old new : WaitingGroups)
    (number sealed learnt : ℕ) (broken closed : Bool) (s : FrontState)
    → left ≡ space → new.groups ≡ old.groups
    → front_of book space old number sealed learnt broken closed ≡ s
    → front_of book left new number sealed learnt broken closed ≡ s
unchanged book space left old new number sealed learnt broken closed s is groups view =
    ap (λ t. front_of book t new number sealed learnt broken closed) is
    ∙ (same_groups book space old new number sealed learnt broken closed groups ∙ view)

pub went_on : (book next : LiveRows (List ℕ)) (space left : SpaceState) (old new : WaitingGroups)
    (number n sealed learnt : ℕ) (broken closed : Bool) (e : Entry (List ℕ))
    → next ≡ record { sizes = book.sizes; rows = rows_after book.rows e }
    → new.groups ≡ joined_by (number + 1) old.groups (carried book.rows e) → n ≡ number + 1
    → front_of next left new n sealed learnt broken closed
    ≡ accepted (front_of book space old number sealed learnt broken closed) e left
went_on book next space left old new number n sealed learnt broken closed e rows groups is =
    λ i. record {
      sizes = (rows i).sizes;
      rows = (rows i).rows;
      number = is i;
      sealed = sealed;
      learnt = learnt;
      unsealed = groups i;
      space = left;
      broken = broken;
      closed = closed;
    }

-- if no rule is broken, the rows are those with the entry
pub applied : {R X : Type 0} (o : Option R) (new next old : X) → o ≡ None
    → new ≡ cond (is_none o) next old → new ≡ next
applied o new next old none is = is ∙ ap (λ p. cond (is_none p) next old) none

pub above : LoadersAreOwn → (s : FrontState) → IsFront s → is_above (s.number + 1) s.rows ≡ true
above own s f = all_below s.number (numbers_in s.rows) (λ u a. past own s f u a)

pub next_follows : (s : FrontState) (groups : _) → IsFront s → groups ≡ s.unsealed
    → EndBefore groups (s.number + 1)
next_follows s groups f e = record {
  from = s.sealed + 1;
  follow = subst (λ l. Follow (s.sealed + 1) l (s.number + 1)) (sym e) f.groups;
}

-- ---- results

pub told : {X : Type 0} (s : FrontState) (change : Change (List ℕ))
    (a : Result X Refusal) (r : Refusal)
    → first_refusal s change ≡ refused a → ◌≡◌ {A = Result X Refusal} a (Err r)
    → FrontAnswers s change (Err r) s
told s change a r first is = (refl, inl (first ∙ ap refused is))

pub no_memory : {X : Type 0} (s new : FrontState) (change : Change (List ℕ))
    (a : Result X Refusal) (n : X)
    → first_refusal s change ≡ refused a → ◌≡◌ {A = Result X Refusal} a (Ok n) → new ≡ s
    → (HasNoChunk s change → ⊥) → FrontAnswers s change (Err refusal.NoMemory) new
no_memory s new change a n first is same room =
    (same, inr (first ∙ ap refused is, inr (refl, room)))

pub no_chunk : {X : Type 0} (s new : FrontState) (change : Change (List ℕ))
    (a : Result X Refusal) (n : X)
    → first_refusal s change ≡ refused a → ◌≡◌ {A = Result X Refusal} a (Ok n) → new ≡ s
    → HasNoChunk s change → FrontAnswers s change (Err (refusal_of_chunk change)) new
no_chunk s new change a n first is same none =
    (same, inr (first ∙ ap refused is, inl (refl, none)))

pub given : {X : Type 0} (s new : FrontState) (change : Change (List ℕ)) (a : Result X Refusal)
    (k : X) (n : ℕ)
    → first_refusal s change ≡ refused a → ◌≡◌ {A = Result X Refusal} a (Ok k)
    → (HasNoChunk s change → ⊥) → FrontAccepts s change n new → FrontAnswers s change (Ok n) new
given s new change a k n first is room accepts = (first ∙ ap refused is, room, accepts)

pub accepts : (s new : FrontState) (change : Change (List ℕ)) (n : ℕ) (e : Entry (List ℕ))
    (space : SpaceState) → n ≡ s.number + 1 → MayFollow words_show s.sizes s.number s.rows e
    → SpaceAfter s e space → new ≡ accepted s e space → change_of s.rows e ≡ Some change
    → FrontAccepts s change n new
accepts s new change n e space is may after new_is some = record {
  number = is;
  entry = e;
  change_is = some;
  may = may;
  space = subst (λ (t : FrontState). SpaceAfter s e t.space) (sym new_is) after;
  after = new_is ∙ λ i. accepted s e (space_of i);
}
  where
    space_of : space ≡ new.space
    space_of = sym (ap (λ (t : FrontState). t.space) new_is)

-- ---- the cache with one more entry

-- with whatever the entry preserves it is an accepted cache again
pub record Followed (s : FrontState) (e : Entry (List ℕ)) (left : SpaceState)
    (new : FrontState) : Type 0 where
  pub front : IsFront new
  pub after : new ≡ accepted s e left

pub followed : EntriesAreSteps (List ℕ) → (book next : LiveRows (List ℕ)) (space left : SpaceState)
    (old mid new : WaitingGroups) (number n sealed learnt : ℕ) (broken closed : Bool)
    (e : Entry (List ℕ)) (o : Option EntryRule)
    → IsFront (front_of book space old number sealed learnt broken closed)
    → number < 2 ^ 63 → n ≡ number + 1
    → Keeps (front_of book space old number sealed learnt broken closed) e left
    → o ≡ broken_rule book.sizes book.rows n e
    → next ≡ cond (is_none o) (record { sizes = book.sizes; rows = rows_after book.rows e }) book
    → mid.groups ≡ old.groups → new.groups ≡ joined_by n mid.groups (carried book.rows e)
    → Followed (front_of book space old number sealed learnt broken closed) e left
    (front_of next left new n sealed learnt broken closed)
followed steps book next space left old mid new number n sealed learnt broken closed e o
    f below is keeps rule rows same groups =
    let s : FrontState = front_of book space old number sealed learnt broken closed in
    let none : o ≡ None =
    rule ∙ ap (λ k. broken_rule book.sizes book.rows k e) is ∙ keeps.may.keeps in
    let joined : new.groups ≡ joined_by (number + 1) old.groups (carried book.rows e) =
    groups ∙ (ap (λ k. joined_by k mid.groups (carried book.rows e)) is
    ∙ ap (λ l. joined_by (number + 1) l (carried book.rows e)) same) in
    let whole = went_on book next space left old new number n sealed learnt broken closed e
    (applied o next (record { sizes = book.sizes; rows = rows_after book.rows e }) book none rows)
    joined is in
    record {
      front = subst IsFront (sym whole) (goes_on steps s e left f below keeps);
      after = whole;
    }

-- and if the space is the entry's too, what was asked is accepted
pub record Went (s : FrontState) (change : Change (List ℕ)) (n : ℕ)
    (new : FrontState) : Type 0 where
  pub front : IsFront new
  pub accepts : FrontAccepts s change n new

pub went : (s new : FrontState) (change : Change (List ℕ)) (n : ℕ) (e : Entry (List ℕ))
    (left : SpaceState) → n ≡ s.number + 1 → Keeps s e left → SpaceAfter s e left
    → change_of s.rows e ≡ Some change → Followed s e left new → Went s change n new
went s new change n e left is keeps after some f = record {
  front = f.front;
  accepts = accepts s new change n e left is keeps.may after f.after some;
}

-- ---- a loader

pub loader_keeps : LoadersAreOwn → (s : FrontState) (x : List ℕ) (n : ℕ) (left : SpaceState)
    → IsFront s → IsMade s x n → left ≡ with_arena s.space n [] → IsSpace left
    → IsFreeSpace left.pool → Keeps s (entry.Live (Loader (record { number = n; name = x }))) left
loader_keeps own s x n left f m is space free =
    let base = subst (λ k. IsSpace (with_arena s.space k [])) m.number (subst IsSpace is space) in
    let pool = subst (λ (t : SpaceState). IsFreeSpace t.pool) is free in
    let kept = keeps_loader own s x n f (not_last s.number f.numbers m.left) m base pool in
    subst (λ t. Keeps s (entry.Live (Loader (record { number = n; name = x }))) t) (sym is)
    (subst (λ k. Keeps s (entry.Live (Loader (record { number = k; name = x })))
    (with_arena s.space k [])) (sym m.number) kept)

-- ---- an unload

pub last_of_all : (learnt n : ℕ) (ws : List WaitingChunks) → AllByRecursion (IsDueLater learnt n) ws
    → AllByRecursion (λ (w : WaitingChunks). w.number ≤ n + 1) ws
last_of_all learnt n [] h = tt
last_of_all learnt n (w ∷ ws) h =
    let to = h.0.to in (omega (arith, to), last_of_all learnt n ws h.1)

pub unload_asked : LoadersAreOwn → (s : FrontState) (x : List ℕ) (u : ℕ) → IsFront s → IsAsked s x u
    → change_of s.rows (entry.Unload (record { loader = u })) ≡ Some (Unload x)
unload_asked own s x u f asked = ap (option_map Unload) (name_is own s x u f asked.found)

pub unload_all_asked : LoadersAreOwn → (s : FrontState) (xs : List (List ℕ)) (us : List ℕ)
    → IsFront s → AreAsked s xs us
    → change_of s.rows (entry.UnloadAll (record { loaders = us })) ≡ Some (UnloadAll xs)
unload_all_asked own s xs us f asked =
    ap (option_map UnloadAll) (are_found own s xs us f asked).named

pub tighten_asked : LoadersAreOwn → (s : FrontState) (x : List ℕ) (u : ℕ) (from to : Chunk)
    → IsFront s → IsAsked s x u
    → change_of s.rows (entry.Move (record { loader = u; from = from; to = to }))
    ≡ Some (Tighten x)
tighten_asked own s x u from to f asked = ap (option_map Tighten) (name_is own s x u f asked.found)

pub class_given : LoadersAreOwn → (s : FrontState) (x words : List ℕ) (u : ℕ) (place : Place)
    → IsFront s → IsAsked s x u
    → change_of s.rows (entry.Live (Class (record { loader = u; place = place }) words))
    ≡ Some (Define x words)
class_given own s x words u place f asked =
    ap (option_map (λ y. Define y words)) (name_is own s x u f asked.found)

pub is_known : (s : FrontState) (x : List ℕ) (u : ℕ) → IsFront s → IsAsked s x u → IsKnown s.space u
is_known s x u f asked = (f.known u).1 (number_lives x u s.rows asked.found)

-- live loaders are known, and no number of different ones appears twice
pub all_known : (s : FrontState) (us : List ℕ) → IsFront s → are_live us s.rows ≡ true
    → AllByRecursion (IsKnown s.space) us
all_known s [] f live = tt
all_known s (u ∷ us) f live =
    let parts = and_parts (is_live u s.rows) (are_live us s.rows) live in
    ((f.known u).1 parts.0, all_known s us f parts.1)

pub all_apart : (us : List ℕ) → differ us ≡ true → Pairwise (λ u v. u ≢ v) us
all_apart [] d = tt
all_apart (u ∷ us) d =
    let parts = and_parts (list_all (λ v. not (eqb u v)) us) (differ us) d in
    (from_one us parts.0, all_apart us parts.1)
  where
    from_one : (vs : List ℕ) → list_all (λ v. not (eqb u v)) vs ≡ true
        → AllByRecursion (λ v. u ≢ v) vs
    from_one [] d = tt
    from_one (v ∷ vs) d =
        let parts = and_parts (not (eqb u v)) (list_all (λ w. not (eqb u w)) vs) d in
        (λ same. not_both (eqb u v) (eq-eqb u v same) parts.0, from_one vs parts.1)
      where
        not_both : (t : Bool) → t ≡ true → not t ≡ true → ⊥
        not_both t p q = absurd (cc)

-- ---- a class

pub words_some : (words : List ℕ) → IsRightRecord words → 1 ≤ length words
unfolding lay
words_some words r =
    let some : 1 ≤ length (lay r.0) = omega arith in
    subst (λ (l : List ℕ). 1 ≤ length l) (sym r.2) some

pub class_keeps : PlacesKeepRules → LoadersAreOwn → (s : FrontState) (x words : List ℕ) (u k : ℕ)
    (place : Place) (left : SpaceState) → IsFront s → IsFree s x words u → IsRightRecord words
    → k ≡ length words
    → Places (arena_of s.space u) s.space.pool k place (arena_of left u) left.pool
    → left ≡ record (with_arena s.space u (arena_of left u)) { pool = left.pool }
    → IsSpace left → IsFreeSpace left.pool
    → Keeps s (entry.Live (Class (record { loader = u; place = place }) words)) left
class_keeps keep own s x words u k place left f free right amount placed others is pool =
    subst (λ t. Keeps s (entry.Live (Class (record { loader = u; place = place }) words)) t)
    (sym others)
    (keeps_class keep own s x words u place (arena_of left u) left.pool f free right
    (record {
      places = subst (λ n. Places (arena_of s.space u) s.space.pool n place
          (arena_of left u) left.pool)
          amount placed;
      some = words_some words right;
    })
    (subst IsSpace others is) pool)

same_number : (u v : ℕ) → Some u ≡ Some v → u ≡ v
same_number u v e = cc

pub not_full_for : (s : FrontState) (x words : List ℕ) (u : ℕ) → number_of x s.rows ≡ Some u
    → (IsFull (arena_of s.space u) s.space.pool (length words) → ⊥)
    → HasNoChunk s (Define x words) → ⊥
not_full_for s x words u found room full =
    let same : full.0 ≡ u = same_number full.0 u (sym full.1 ∙ found) in
    room (subst (λ v. IsFull (arena_of s.space v) s.space.pool (length words)) same full.2)

pub not_tight_for : (s : FrontState) (x : List ℕ) (u : ℕ) → number_of x s.rows ≡ Some u
    → (IsTight (arena_of s.space u) s.space.pool → ⊥) → HasNoChunk s (Tighten x) → ⊥
not_tight_for s x u found room tight =
    let same : tight.0 ≡ u = same_number tight.0 u (sym tight.1 ∙ found) in
    room (subst (λ v. IsTight (arena_of s.space v) s.space.pool) same tight.2)

-- an allocation failed, and the region is full or not
pub full_answer : (s new : FrontState) (x words : List ℕ) (u k : ℕ)
    → first_refusal s (Define x words) ≡ refused (class_asked s x words)
    → ◌≡◌ {A = Result ℕ Refusal} (class_asked s x words) (Ok u) → new ≡ s → k ≡ length words
    → number_of x s.rows ≡ Some u → (b : Bool)
    → (IsTrue b ↔ IsFull (arena_of s.space u) s.space.pool k)
    → FrontAnswers s (Define x words) (Err (cond b refusal.RegionFull refusal.NoMemory)) new
full_answer s new x words u k first is same amount found true tells =
    no_chunk s new (Define x words) (class_asked s x words) u first is same
    (u, found, subst (λ n. IsFull (arena_of s.space u) s.space.pool n) amount (tells.0 refl))
full_answer s new x words u k first is same amount found false tells =
    no_memory s new (Define x words) (class_asked s x words) u first is same
    (not_full_for s x words u found (λ h. no_way
    (tells.1 (subst (λ n. IsFull (arena_of s.space u) s.space.pool n) (sym amount) h))))
  where
    no_way : IsTrue false → ⊥
    no_way h = absurd (cc)

-- no place was found
pub place_answer : (s new : FrontState) (x words : List ℕ) (u k : ℕ)
    → first_refusal s (Define x words) ≡ refused (class_asked s x words)
    → ◌≡◌ {A = Result ℕ Refusal} (class_asked s x words) (Ok u) → new ≡ s → k ≡ length words
    → IsFront s → IsFree s x words u → (r : PlaceRefusal)
    → (r ≡ of_place.RecordTooLong → chunk_size s.space.pool.geometry.top < k)
    → (r ≡ of_place.RegionFull → IsFull (arena_of s.space u) s.space.pool k)
    → (IsFull (arena_of s.space u) s.space.pool k → r ≡ of_place.RegionFull)
    → FrontAnswers s (Define x words) (Err (refusal_of_place r)) new
place_answer s new x words u k first is same amount f free of_place.RecordTooLong long
    full is_full =
    absurd (too_short (long refl) (ltb-false (chunk_size s.sizes.top) (length words) free.fits))
  where
    too_short : chunk_size s.space.pool.geometry.top < k → length words ≤ chunk_size s.sizes.top → ⊥
    too_short a b =
        let c = subst (λ (z : Sizes). chunk_size z.top < k) f.space.geometry a in
        absurd (omega (arith, b, c, amount))
place_answer s new x words u k first is same amount f free of_place.RegionFull long full is_full =
    no_chunk s new (Define x words) (class_asked s x words) u first is same (
      u,
      free.asked.found,
      subst (λ n. IsFull (arena_of s.space u) s.space.pool n) amount (full refl),
    )
place_answer s new x words u k first is same amount f free of_place.NoMemory long full is_full =
    no_memory s new (Define x words) (class_asked s x words) u first is same
    (not_full_for s x words u free.asked.found (λ h. no_way
    (is_full (subst (λ n. IsFull (arena_of s.space u) s.space.pool n) (sym amount) h))))
  where
    no_way : of_place.NoMemory ≡ of_place.RegionFull → ⊥
    no_way h = absurd (cc)
