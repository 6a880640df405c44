-- The cache after an unload, of one loader or of several at once.
-- For `Front::add_loader`, `Front::define`, `Front::unload`.
use Rattle.std.proofs.Common.{◌≡◌, ℕ, ◌+◌, ◌^◌, ◌<◌, Bool, true, false, cond, not, List, [], ◌∷◌}
use Rattle.std.proofs.Common.{◌++◌, None, refl, sym, ap, subst, ◌∙◌, arith, eqb, IsSome}
use Rattle.std.specs.Prelude.{◌↔◌, unwrap_or, is_some}
use Rattle.std.specs.List.{AllByRecursion}
use Rattle.std.specs.FinMap as fin
use Rattle.std.proofs.lemmas.Bool.{eqb-true, and_parts}
use Rattle.cm_pool.specs.FreeSpace.{FreeSpace, IsFreeSpace}
use Rattle.cm_arena.specs.Chains.{chain_chunks}
use Rattle.cm_layout.specs.declared.row.Row.{Row}
use Rattle.cm_layout.specs.declared.row.Row.TheVariants.{Loader, Class}
use Rattle.cm_layout.specs.declared.entry.Entry.{Entry}
use Rattle.cm_layout.specs.declared.entry.Entry.TheVariants as entry
use Rattle.cm_layout.specs.Rows.{name_of, without_loader, without_loaders, rows_after, bare}
use Rattle.cm_layout.specs.Rules.{is_live, are_live}
use Rattle.cm_layout.specs.Laws.{LoadersAreOwn}
use Rattle.cm_layout.proofs.{name-gone, name-without, each-without}
use Rattle.cm_group.specs.Groups.{IsRightRecord, AreRight}
use Rattle.cm_space.specs.Space.{SpaceState, WaitingChunks, IsKnown, arena_of, without_arena}
use Rattle.cm_space.specs.Space.{left_by}
use Rattle.cm_space.specs.Space.{left_by_all}
use Rattle.cm_space.specs.Ownership.{IsSpace}
use Rattle.cm_front.specs.Chains.{chain_of}
use Rattle.cm_front.specs.Front.{FrontState, IsFront, IsDueLater}
use Rattle.cm_front.specs.Accepting.{Unloads}
use Rattle.cm_front.proofs.RowFacts.{chain_bare, chain_gone, chain_left}
use Rattle.cm_front.proofs.Spaces.{got_none, got_left}
use Rattle.cm_front.proofs.Causes.{IsAsked, AreAsked}
use Rattle.cm_front.proofs.Groups.{follow_from}
use Rattle.cm_front.proofs.Goings.{Keeps, due_later, live_past, not_last}
use Rattle.cm_front.proofs.GoingsClass.{number_lives, turned}
use Rattle.cm_front.proofs.NameNumbers.{are_found}

pub due_more : (learnt n : ℕ) (ws : List WaitingChunks) (w : WaitingChunks)
    → AllByRecursion (IsDueLater learnt n) ws → IsDueLater learnt n w
    → AllByRecursion (IsDueLater learnt n) (ws ++ w ∷ [])
due_more learnt n [] w h d = (d, tt)
due_more learnt n (v ∷ ws) w h d = (h.0, due_more learnt n ws w h.1 d)

-- rows and a space that fit each other, except for the words of the space's chunks
pub record AreOfOne (learnt n : ℕ) (rows : List (Row (List ℕ))) (space : SpaceState)
    : Type 0 where
  pub right : AreRight rows
  pub chains : (u : ℕ) → arena_of space u ≡ chain_of u (bare rows)
  pub known : (u : ℕ) → IsKnown space u ↔ (is_live u rows ≡ true)
  pub waiting : AllByRecursion (IsDueLater learnt n) space.waiting

module _ {learnt n : ℕ} {rows : List (Row (List ℕ))} {space : SpaceState} where
  known_left : (u : ℕ) → AreOfOne learnt n rows space → (v : ℕ)
      → IsKnown (left_by space n u) v ↔ (is_live v (without_loader u rows) ≡ true)
  known_left u one v = by_test (eqb v u) refl
    where
      by_test : (t : Bool) → eqb v u ≡ t
          → IsKnown (left_by space n u) v ↔ (is_live v (without_loader u rows) ≡ true)
      by_test true e =
          let same : u ≡ v = sym (eqb-true v u e) in
          let gone : fin.get (without_arena space u).arenas v ≡ None =
          ap (fin.get (without_arena space u).arenas) (sym same) ∙ got_none space u in
          let dead : name_of v (without_loader u rows) ≡ None =
          ap (λ k. name_of k (without_loader u rows)) (sym same) ∙ name-gone u rows in
          (λ k. absurd (no_arena gone k), λ l. absurd (not_dead dead l))
        where
          no_arena : fin.get (without_arena space u).arenas v ≡ None
              → IsSome (fin.get (without_arena space u).arenas v) → ⊥
          no_arena g k = absurd (cc)

          not_dead : name_of v (without_loader u rows) ≡ None
              → is_some (name_of v (without_loader u rows)) ≡ true → ⊥
          not_dead g k = absurd (cc)
      by_test false e =
          let other = got_left space u v e in
          let live_is : is_live v (without_loader u rows) ≡ is_live v rows =
          ap is_some (name-without v u rows (turned v u e)) in (
            λ k. live_is ∙ (one.known v).0 (subst (λ o. IsSome o) other k),
            λ l. subst (λ o. IsSome o) (sym other) ((one.known v).1 (sym live_is ∙ l)),
          )

  chains_left : (u : ℕ) → AreOfOne learnt n rows space → (v : ℕ)
      → arena_of (left_by space n u) v ≡ chain_of v (bare (without_loader u rows))
  chains_left u one v = by_test (eqb v u) refl ∙ sym (chain_bare v (without_loader u rows))
    where
      by_test : (t : Bool) → eqb v u ≡ t
          → arena_of (left_by space n u) v ≡ chain_of v (without_loader u rows)
      by_test true e =
          let same : v ≡ u = eqb-true v u e in
          ap (λ k. arena_of (left_by space n u) k) same
          ∙ (ap (λ o. unwrap_or o []) (got_none space u)
          ∙ (sym (chain_gone u rows) ∙ ap (λ k. chain_of k (without_loader u rows)) (sym same)))
      by_test false e =
          ap (λ o. unwrap_or o []) (got_left space u v e)
          ∙ (one.chains v ∙ (chain_bare v rows ∙ sym (chain_left v u rows e)))

  one_left : (u : ℕ) → learnt < n → AreOfOne learnt n rows space
      → AreOfOne learnt n (without_loader u rows) (left_by space n u)
  one_left u later one = record {
    right = each-without IsRightRecord u rows one.right;
    chains = chains_left u one;
    known = known_left u one;
    waiting =
        due_more learnt n space.waiting
        (record { number = n; chunks = chain_chunks (arena_of space u) }) one.waiting
        (record { from = later; to = omega arith });
  }

-- loaders are unloaded one after another
all_left : (learnt n : ℕ) (us : List ℕ) (rows : List (Row (List ℕ))) (space : SpaceState)
    → learnt < n → AreOfOne learnt n rows space
    → AreOfOne learnt n (without_loaders us rows) (left_by_all space n us)
all_left learnt n [] rows space later one = one
all_left learnt n (u ∷ us) rows space later one =
    all_left learnt n us (without_loader u rows) (left_by space n u) later (one_left u later one)

pool_left : (s : SpaceState) (n : ℕ) (us : List ℕ) → (left_by_all s n us).pool ≡ s.pool
pool_left s n [] = refl
pool_left s n (u ∷ us) = pool_left (left_by s n u) n us

-- the loaders are unloaded, and what is left is what the entry preserves
pub keeps_left : (s : FrontState) (e : Entry (List ℕ)) (us : List ℕ) (left : SpaceState) → IsFront s
    → Unloads s e us → left ≡ left_by_all s.space (s.number + 1) us → IsSpace left
    → IsFreeSpace left.pool → Keeps s e left
keeps_left s e us left f h is space free =
    let sealed = follow_from s.unsealed (s.sealed + 1) (s.number + 1) f.groups in
    let learnt = f.learnt in
    let before : AreOfOne s.learnt (s.number + 1) s.rows s.space = record {
      right = f.right;
      chains = f.space.chains;
      known = f.known;
      waiting = due_later s.learnt s.number s.space.waiting f.waiting;
    } in
    let all = all_left s.learnt (s.number + 1) us s.rows s.space (omega (arith, sealed, learnt))
    before in
    let after : AreOfOne s.learnt (s.number + 1) (rows_after s.rows e) left =
    subst (λ (l : List (Row (List ℕ))). AreOfOne s.learnt (s.number + 1) l left) (sym h.rows_are)
    (subst (AreOfOne s.learnt (s.number + 1) (without_loaders us s.rows)) (sym is) all) in
    record {
      may = h.may;
      right = after.right;
      matches = record {
        is = space;
        pool = free;
        geometry = ap (λ (t : SpaceState). t.pool.geometry) is
            ∙ ap (λ (p : FreeSpace). p.geometry) (pool_left s.space (s.number + 1) us)
            ∙ f.space.geometry;
        chains = after.chains;
      };
      known = after.known;
      waiting = after.waiting;
    }

-- ---- what is asked is such an entry

pub unloads_one : LoadersAreOwn → (s : FrontState) (x : List ℕ) (u : ℕ) → IsFront s → IsAsked s x u
    → Unloads s (entry.Unload (record { loader = u })) (u ∷ [])
unloads_one own s x u f asked =
    let live = number_lives x u s.rows asked.found in
    let before = live_past own s f u live in
    let numbers = f.numbers in
    record {
      may = record {
        fits = record { loader = omega (arith, before, numbers) };
        keeps = rw live refl;
        new = tt;
      };
      left = not_last s.number numbers asked.left;
      live = rw live refl;
      differ = refl;
      rows_are = refl;
    }

pub unloads_all : LoadersAreOwn → (s : FrontState) (xs : List (List ℕ)) (us : List ℕ)
    → IsFront s → AreAsked s xs us → Unloads s (entry.UnloadAll (record { loaders = us })) us
unloads_all own s xs us f asked =
    let found = are_found own s xs us f asked in
    let count = found.count in
    let some = asked.some in
    let few = asked.few in
    record {
      may = record {
        fits = record {
          some = omega (arith, count, some);
          few = omega (arith, count, few);
          loaders = all_small us found.live;
        };
        keeps = rw found.differ (rw found.live refl);
        new = tt;
      };
      left = not_last s.number f.numbers asked.left;
      live = found.live;
      differ = found.differ;
      rows_are = refl;
    }
  where
    all_small : (us : List ℕ) → are_live us s.rows ≡ true → AllByRecursion (λ u. u < 2 ^ 64) us
    all_small [] live = tt
    all_small (u ∷ us) live =
        let parts = and_parts (is_live u s.rows) (are_live us s.rows) live in
        let before = live_past own s f u parts.0 in
        let numbers = f.numbers in
        (omega (arith, before, numbers), all_small us parts.1)
