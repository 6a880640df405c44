-- The cache after an entry.
-- For `Front::add_loader`, `Front::define`, `Front::unload`.
use Rattle.std.proofs.Common.{◌≡◌, ℕ, ◌+◌, ◌^◌, ◌<◌, ◌≤◌, Bool, true, false, cond, List, []}
use Rattle.std.proofs.Common.{◌∷◌, ◌++◌, length, None, refl, sym, ap}
use Rattle.std.proofs.Common.{subst, ◌∙◌, arith, eqb, IsSome}
use Rattle.std.specs.Prelude.{◌&&◌, ◌↔◌, unwrap_or, nat_le, nat_lt, is_some}
use Rattle.std.specs.List.{AllByRecursion}
use Rattle.std.specs.FinMap as fin
use Rattle.std.proofs.lemmas.Bool.{eqb-true, eq-eqb, ltb-true, leb-true, le-leb}
use Rattle.std.proofs.lemmas.Bool.{ltb-false, and_parts}
use Rattle.cm_pool.specs.FreeSpace.{IsFreeSpace}
use Rattle.cm_pool.specs.Lists.{Among}
use Rattle.cm_layout.specs.declared.loader_row.LoaderRow.{LoaderRow}
use Rattle.cm_layout.specs.declared.row.Row.{Row}
use Rattle.cm_layout.specs.declared.row.Row.TheVariants.{Loader, Class}
use Rattle.cm_layout.specs.declared.entry.Entry.{Entry}
use Rattle.cm_layout.specs.declared.entry.Entry.TheVariants as entry
use Rattle.cm_layout.specs.Names.{is_loader_name, name_limit, slots_of_name}
use Rattle.cm_layout.specs.Rows.{name_of, numbers_in, rows_after, bare}
use Rattle.cm_layout.specs.Rows.{slots_of_rows}
use Rattle.cm_layout.specs.Rules.{is_live, row_limit, is_too_much}
use Rattle.cm_layout.specs.Laws.{LoadersAreOwn}
use Rattle.cm_layout.specs.Loaders.{HasOwnLoaders}
use Rattle.cm_layout.proofs.{numbers-bare, each-append}
use Rattle.cm_group.specs.Groups.{IsRightRecord, AreRight}
use Rattle.cm_space.specs.Space.{SpaceState, WaitingChunks, IsKnown, arena_of, with_arena}
use Rattle.cm_space.specs.Ownership.{IsSpace}
use Rattle.cm_state.specs.State.{words_show}
use Rattle.cm_state.specs.Step.{last_number}
use Rattle.cm_state.specs.Laws.{EntriesAreSteps}
use Rattle.cm_state.specs.Entries.{MayFollow}
use Rattle.cm_front.specs.Chains.{chain_of}
use Rattle.cm_front.specs.Laws.{SpaceMatches}
use Rattle.cm_front.specs.Front.{FrontState, IsFront, IsDueLater}
use Rattle.cm_front.specs.Accepting.{accepted, carried}
use Rattle.cm_front.proofs.Groups.{follow_joined}
use Rattle.cm_front.proofs.RowFacts.{chain_bare, among_named}
use Rattle.cm_front.proofs.RowFacts.{name_with_loader, chain_with_loader}
use Rattle.cm_front.proofs.Spaces.{got_same, got_other, not_known}
use Rattle.cm_front.proofs.Causes.{IsMade}

-- ---- numbers

pub not_last : (n : ℕ) → n ≤ 2 ^ 63 → eqb n last_number ≡ false → n < 2 ^ 63
not_last n to e = by_less (nat_lt n (2 ^ 63)) refl
  where
    true_not : {X : Type 0} → true ≡ false → X
    true_not p = absurd (cc)

    by_less : (t : Bool) → nat_lt n (2 ^ 63) ≡ t → n < 2 ^ 63
    by_less true h = ltb-true n (2 ^ 63) h
    by_less false h =
        let least = ltb-false n (2 ^ 63) h in
        let last : n ≡ last_number = omega (arith, to, least) in
        true_not (sym (eq-eqb n last_number last) ∙ e)

own_loaders : LoadersAreOwn → (s : FrontState) → IsFront s → HasOwnLoaders s.number (bare s.rows)
own_loaders own s f = own s.sizes s.number (bare s.rows) f.rows.live

pub past : LoadersAreOwn → (s : FrontState) → IsFront s → (u : ℕ) → Among u (numbers_in s.rows)
    → u ≤ s.number
past own s f u a =
    (own_loaders own s f).past u (subst (λ l. Among u l) (sym (numbers-bare s.rows)) a)

pub live_past : LoadersAreOwn → (s : FrontState) → IsFront s → (u : ℕ) → is_live u s.rows ≡ true
    → u ≤ s.number
live_past own s f u live = past own s f u (among_named u s.rows live)

-- ---- any entry

-- what an entry's space and rows preserve
pub record Keeps (s : FrontState) (e : Entry (List ℕ)) (space : SpaceState) : Type 0 where
  pub may : MayFollow words_show s.sizes s.number s.rows e
  pub right : AreRight (rows_after s.rows e)
  pub matches : SpaceMatches s.sizes (bare (rows_after s.rows e)) space
  pub known : (u : ℕ) → IsKnown space u ↔ (is_live u (rows_after s.rows e) ≡ true)
  pub waiting : AllByRecursion (IsDueLater s.learnt (s.number + 1)) space.waiting

pub goes_on : EntriesAreSteps (List ℕ) → (s : FrontState) (e : Entry (List ℕ)) (space : SpaceState)
    → IsFront s → s.number < 2 ^ 63 → Keeps s e space → IsFront (accepted s e space)
goes_on steps s e space f below k =
    let step = steps words_show s.sizes s.number s.rows e f.rows k.may below in
    record {
      lawful = f.lawful;
      rows = step.rows_are;
      right = k.right;
      space = k.matches;
      known = k.known;
      waiting = k.waiting;
      learnt = f.learnt;
      numbers = omega (arith, below);
      groups = follow_joined s.unsealed (s.sealed + 1) (s.number + 1) (carried s.rows e) f.groups;
    }

-- what waits for a number still waits for it when there is one more
pub due_later : (learnt n : ℕ) (ws : List WaitingChunks) → AllByRecursion (IsDueLater learnt n) ws
    → AllByRecursion (IsDueLater learnt (n + 1)) ws
due_later learnt n [] h = tt
due_later learnt n (w ∷ ws) h =
    let to = h.0.to in
    (record { from = h.0.from; to = omega (arith, to) }, due_later learnt n ws h.1)

-- ---- a loader

loader_fits : (x : List ℕ) → is_loader_name x ≡ true → length x ≤ name_limit
loader_fits x named =
    let some = nat_le 1 (length x) in
    let short = nat_le (length x) name_limit in
    leb-true (length x) name_limit (and_parts some short (and_parts (some && short) _ named).0).1

pub room_left : (s : FrontState) (need : ℕ)
    → is_too_much s.sizes (slots_of_rows s.rows) need ≡ false
    → nat_le (slots_of_rows s.rows + need) (row_limit s.sizes) ≡ true
room_left s need e =
    le-leb (slots_of_rows s.rows + need) (row_limit s.sizes)
    (ltb-false (row_limit s.sizes) (slots_of_rows s.rows + need) e)

loader_row : FrontState → List ℕ → LoaderRow
loader_row s x = record { number = s.number + 1; name = x }

may_loader : (s : FrontState) (x : List ℕ) (n : ℕ) → s.number < 2 ^ 63 → IsMade s x n
    → MayFollow words_show s.sizes s.number s.rows
    (entry.Live (Loader (record { number = s.number + 1; name = x })))
may_loader s x n below m = record {
  fits = record { number = omega (arith, below, arith); name = loader_fits x m.named };
  keeps = rw (eq-eqb (s.number + 1) (s.number + 1) refl)
      (rw m.named (rw m.absent (rw (room_left s (slots_of_name x) m.room) refl)));
  new = tt;
}

-- the new loader has an arena, and the others have theirs
pub known_loader : (rows : List (Row (List ℕ))) (space : SpaceState) (r : LoaderRow)
    → ((u : ℕ) → IsKnown space u ↔ (is_live u rows ≡ true)) → (v : ℕ)
    → IsKnown (with_arena space r.number []) v ↔ (is_live v (rows ++ Loader r ∷ []) ≡ true)
known_loader rows space r known v = by_test (eqb r.number v) refl
  where
    new : SpaceState
    new = with_arena space r.number []

    or_true : (b : Bool) → cond b true true ≡ true
    or_true true = refl
    or_true false = refl

    or_false : (b : Bool) → cond b true false ≡ b
    or_false true = refl
    or_false false = refl

    turned : eqb r.number v ≡ false → eqb v r.number ≡ false
    turned d = by_eq (eqb v r.number) refl
      where
        by_eq : (t : Bool) → eqb v r.number ≡ t → t ≡ false
        by_eq true e = sym (eq-eqb r.number v (sym (eqb-true v r.number e))) ∙ d
        by_eq false e = refl

    by_test : (t : Bool) → eqb r.number v ≡ t
        → IsKnown new v ↔ (is_live v (rows ++ Loader r ∷ []) ≡ true)
    by_test true e =
        let same : r.number ≡ v = eqb-true r.number v e in
        let there : IsKnown new v =
        subst (λ k. IsSome (fin.get new.arenas k)) same
        (subst (λ o. IsSome o) (sym (got_same space r.number [])) refl) in
        let live : is_live v (rows ++ Loader r ∷ []) ≡ true =
        name_with_loader v rows r ∙ ap (λ t. cond (is_some (name_of v rows)) true t) e
        ∙ or_true (is_some (name_of v rows)) in
        (λ _. live, λ _. there)
    by_test false e =
        let other : fin.get new.arenas v ≡ fin.get space.arenas v =
        got_other space r.number v [] (turned e) in
        let live_is : is_live v (rows ++ Loader r ∷ []) ≡ is_live v rows =
        name_with_loader v rows r ∙ ap (λ t. cond (is_some (name_of v rows)) true t) e
        ∙ or_false (is_some (name_of v rows)) in (
          λ k. live_is ∙ (known v).0 (subst (λ o. IsSome o) other k),
          λ l. subst (λ o. IsSome o) (sym other) ((known v).1 (sym live_is ∙ l)),
        )

pub never_known : LoadersAreOwn → (s : FrontState) → IsFront s → IsKnown s.space (s.number + 1) → ⊥
never_known own s f k =
    let below = live_past own s f (s.number + 1) ((f.known (s.number + 1)).0 k) in
    absurd (omega (arith, below))

pub chains_loader : (rows : List (Row (List ℕ))) (space : SpaceState) (r : LoaderRow)
    → ((u : ℕ) → arena_of space u ≡ chain_of u (bare rows)) → (IsKnown space r.number → ⊥) → (v : ℕ)
    → arena_of (with_arena space r.number []) v ≡ chain_of v (bare (rows ++ Loader r ∷ []))
chains_loader rows space r chains never v = by_test (eqb v r.number) refl
  where
    same_chain : arena_of space v ≡ chain_of v (bare (rows ++ Loader r ∷ []))
    same_chain =
        chains v ∙ chain_bare v rows ∙ sym (chain_with_loader v rows r)
        ∙ sym (chain_bare v (rows ++ Loader r ∷ []))

    by_test : (t : Bool) → eqb v r.number ≡ t
        → arena_of (with_arena space r.number []) v ≡ chain_of v (bare (rows ++ Loader r ∷ []))
    by_test true e =
        let same : v ≡ r.number = eqb-true v r.number e in
        let none : fin.get space.arenas v ≡ None =
        not_known space v (subst (λ k. IsKnown space k → ⊥) (sym same) never) in
        ap (λ k. arena_of (with_arena space r.number []) k) same
        ∙ ap (λ o. unwrap_or o []) (got_same space r.number [])
        ∙ (sym (ap (λ o. unwrap_or o []) none) ∙ same_chain)
    by_test false e = ap (λ o. unwrap_or o []) (got_other space r.number v [] e) ∙ same_chain

pub keeps_loader : LoadersAreOwn → (s : FrontState) (x : List ℕ) (n : ℕ) → IsFront s
    → s.number < 2 ^ 63 → IsMade s x n → IsSpace (with_arena s.space (s.number + 1) [])
    → IsFreeSpace s.space.pool
    → Keeps s (entry.Live (Loader (record { number = s.number + 1; name = x })))
    (with_arena s.space (s.number + 1) [])
keeps_loader own s x n f below m is pool =
    let r : LoaderRow = record { number = s.number + 1; name = x } in
    record {
      may = may_loader s x n below m;
      right = each-append IsRightRecord s.rows (Loader r ∷ []) f.right tt;
      matches = record {
        is = is;
        pool = pool;
        geometry = f.space.geometry;
        chains = chains_loader s.rows s.space r f.space.chains (never_known own s f);
      };
      known = known_loader s.rows s.space r f.known;
      waiting = due_later s.learnt s.number s.space.waiting f.waiting;
    }
