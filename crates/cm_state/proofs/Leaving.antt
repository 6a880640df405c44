-- Loaders that are unloaded at once are removed one after another: their names form a list that may
-- be unloaded, and the state is the one without them.
-- For `entries_are_steps` and others.
use Rattle.std.proofs.Common.{◌≡◌, ℕ, ◌+◌, ◌^◌, ◌<◌, Bool, true, false, cond, List, [], ◌∷◌}
use Rattle.std.proofs.Common.{length, Some, None, refl, sym, ap, subst, ◌∙◌, arith, eqb, is_some}
use Rattle.std.specs.Prelude.{not, ◌&&◌}
use Rattle.std.specs.List.{list_all, AllByRecursion}
use Rattle.std.specs.Option.{option_map, option_and_then}
use Rattle.std.specs.Str.{bytes_eq}
use Rattle.std.specs.FinMap.{get, remove}
use Rattle.std.proofs.lemmas.Bool.{and_parts}
use Rattle.cm_pool.specs.Geometry.{Sizes}
use Rattle.cm_layout.specs.declared.row.Row.{Row}
use Rattle.cm_layout.specs.Names.{is_loader_name}
use Rattle.cm_layout.specs.Rows.{without_loader, without_loaders}
use Rattle.cm_layout.specs.Rules.{is_live, are_live, differ}
use Rattle.cm_layout.specs.Loaders.{HasOwnLoaders}
use Rattle.cm_layout.proofs.{live-in-turn, name-without}
use Rattle.cm_state.specs.State.{Loaders, Shows, state_of}
use Rattle.cm_state.specs.Step.{names_differ, without_all}
use Rattle.cm_state.specs.Entries.{AreCacheRows, names_of}
use Rattle.cm_state.proofs.Maps.{got-remove}
use Rattle.cm_state.proofs.RowStates.{state_without, is_loader_found}
use Rattle.cm_state.proofs.Differ.{number_found, only_name, some_name}

-- what is known of the names of loaders that are removed
pub record Leave {A : Type 0} (shows : Shows A) (rows : List (Row A)) (us : List ℕ) : Type 0 where
  pub names : List (List ℕ)
  pub names_are : names_of rows us ≡ Some names
  pub count : length names ≡ length us
  pub differ : names_differ names ≡ true
  pub named : list_all is_loader_name names ≡ true
  pub there : list_all (λ x. is_some (get (state_of shows rows) x)) names ≡ true
  pub left : without_all names (state_of shows rows) ≡ state_of shows (without_loaders us rows)

both : (a b : Bool) → a ≡ true → b ≡ true → (a && b) ≡ true
both a b p q = rw p q

not_true : (t : Bool) → not t ≡ true → t ≡ false
not_true true e = absurd (cc)
not_true false e = refl

-- what exists without one loader has another name, and existed with it
there_before : {A : Type 0} (m : Loaders A) (x : List ℕ) (ys : List (List ℕ))
    → list_all (λ y. is_some (get (remove m x) y)) ys ≡ true
    → (list_all (λ y. not (bytes_eq x y)) ys ≡ true)
    × (list_all (λ y. is_some (get m y)) ys ≡ true)
there_before m x [] h = (refl, refl)
there_before {A} m x (y ∷ ys) h =
    let parts = and_parts (is_some (get (remove m x) y))
    (list_all (λ z. is_some (get (remove m x) z)) ys) h in
    let one = by_test (bytes_eq x y) refl
    (sym (ap is_some (got-remove m x y)) ∙ parts.0) in
    let rest = there_before m x ys parts.1 in
    (both _ _ one.0 rest.0, both _ _ one.1 rest.1)
  where
    by_test : (t : Bool) → bytes_eq x y ≡ t → is_some (cond t None (get m y)) ≡ true
        → (not (bytes_eq x y) ≡ true) × (is_some (get m y) ≡ true)
    by_test true is some = absurd (cc)
    by_test false is some = (ap not is, some)

-- the others keep their names
names-without : {A : Type 0} (rows : List (Row A)) (u : ℕ) (us : List ℕ)
    → list_all (λ v. not (eqb u v)) us ≡ true
    → names_of (without_loader u rows) us ≡ names_of rows us
names-without rows u [] h = refl
names-without rows u (v ∷ us) h =
    let parts = and_parts (not (eqb u v)) (list_all (λ w. not (eqb u w)) us) h in
    let one = name-without v u rows (not_true (eqb u v) parts.0) in
    let rest = names-without rows u us parts.1 in
    (λ i. option_and_then (λ x. option_map (λ xs. x ∷ xs) (rest i)) (one i))

-- Rows of a cache are still rows of a cache without one of their loaders.
abbrev pub StayWithout : (A : Type 0) → Shows A → Sizes → Type 0
StayWithout A shows sizes =
    (n : ℕ) (rows : List (Row A)) (u : ℕ) → AreCacheRows shows sizes n rows → u < 2 ^ 64
    → is_live u rows ≡ true → AreCacheRows shows sizes (n + 1) (without_loader u rows)

abbrev pub OwnTheirLoaders : (A : Type 0) → Shows A → Sizes → Type 0
OwnTheirLoaders A shows sizes =
    (n : ℕ) (rows : List (Row A)) → AreCacheRows shows sizes n rows → HasOwnLoaders n rows

pub leave : {A : Type 0} (shows : Shows A) (sizes : Sizes) → StayWithout A shows sizes
    → OwnTheirLoaders A shows sizes → (n : ℕ) (us : List ℕ) (rows : List (Row A))
    → AreCacheRows shows sizes n rows → AllByRecursion (λ u. u < 2 ^ 64) us
    → (differ us && are_live us rows) ≡ true → Leave shows rows us
leave shows sizes stay own n [] rows are small h = record {
  names = [];
  names_are = refl;
  count = refl;
  differ = refl;
  named = refl;
  there = refl;
  left = refl;
}
leave {A} shows sizes stay own n (u ∷ us) rows are small h =
    let turn = live-in-turn u us rows h in
    let mine = own n rows are in
    let found = some_name u rows turn.0 in
    let x = found.0 in
    let number = number_found x u rows mine.differ found.1 in
    let m = state_of shows rows in
    let rest = leave shows sizes stay own (n + 1) us (without_loader u rows)
    (stay n rows u are small.0 turn.0) small.1 turn.1 in
    let without : state_of shows (without_loader u rows) ≡ remove m x =
    state_without shows rows u x number (only_name x u rows mine.differ found.1) mine.differ in
    let before = there_before m x rest.names
    (subst (λ (l : Loaders A). list_all (λ y. is_some (get l y)) rest.names ≡ true) without
    rest.there) in
    let front = list_all (λ v. not (eqb u v)) us in
    let apart = (and_parts front (differ us) (and_parts (front && differ us)
    (is_live u rows && are_live us rows) h).0).0 in
    record {
      names = x ∷ rest.names;
      names_are = ap (option_and_then (λ y. option_map (λ ys. y ∷ ys) (names_of rows us))) found.1
          ∙ ap (option_map (λ ys. x ∷ ys)) (sym (names-without rows u us apart) ∙ rest.names_are);
      count = omega (arith, rest.count);
      differ = both _ _ before.0 rest.differ;
      named = both _ _ (mine.named u x found.1) rest.named;
      there = both _ _ (is_loader_found shows rows x ∙ ap is_some number) before.1;
      left = ap (without_all rest.names) (sym without) ∙ rest.left;
    }
