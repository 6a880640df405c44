-- Loaders' arenas are removed one after another.
-- For `leave_each`.
use Rattle.std.proofs.Common.{◌≡◌, ◌≢◌, ℕ, ◌+◌, ◌<◌, List, [], ◌∷◌, length, drop, get_or, sym, ap}
use Rattle.std.proofs.Common.{◌∙◌, subst}
use Rattle.std.proofs.lemmas.List.{drop_more}
use Rattle.std.specs.List.{AllByRecursion}
use Rattle.std.specs.FinSet as set
use Rattle.cm_pool.specs.FreeSpace.{FreeSpace}
use Rattle.cm_pool.specs.Lists.{Pairwise}
use Rattle.cm_space.specs.declared.waiting.Waiting.{Waiting}
use Rattle.cm_space.specs.Space.{SpaceState, IsKnown, HasArena, AreLeft, left_by_all}
use Rattle.cm_space.specs.Space.{space_state}
use Rattle.cm_space.proofs.Arenas.{Entries}
use Rattle.cm_space.proofs.Spaces.{known-behind}

-- these loaders are still to be removed; once they are, the result is as if all were removed from
-- the start
pub record AreLeaving (old : Entries) (was : List Waiting) (n : ℕ) (all : List ℕ) (es : Entries)
    (ws : List Waiting) (us : List ℕ) : Type 0 where
  pub known : AllByRecursion (HasArena es) us
  pub differ : Pairwise (λ u v. u ≢ v) us
  pub sofar : (p : FreeSpace) → left_by_all (space_state p es ws) n us
      ≡ left_by_all (space_state p old was) n all

-- the loader whose turn it is comes before those after it
pub next-turn : {old : Entries} {was : List Waiting} {n : ℕ} {all : List ℕ} {es : Entries}
    {ws : List Waiting} {i : ℕ}
    → AreLeaving old was n all es ws (drop i all) → i < length all
    → AreLeaving old was n all es ws (get_or all i 0 ∷ drop (i + 1) all)
next-turn {old} {was} {n} {all} {es} {ws} {i} h more =
    subst (λ (us : List ℕ). AreLeaving old was n all es ws us) (drop_more all i 0 more) h

pub next-left : {old : Entries} {was : List Waiting} {n : ℕ} {all : List ℕ} {es : Entries}
    {ws : List Waiting} (u : ℕ) (us : List ℕ) (new : Entries) (vs : List Waiting)
    → AreLeaving old was n all es ws (u ∷ us) → AreLeft es ws n (u ∷ []) new vs
    → AreLeaving old was n all new vs us
next-left {old} {was} {n} {all} {es} {ws} u us new vs h gone = record {
  known = subst (λ (s : SpaceState). AllByRecursion (IsKnown s) us) (sym (gone no_words))
      (known-behind (space_state no_words es ws) n u us h.differ.0 h.known.1);
  differ = h.differ.1;
  sofar = λ p. ap (λ s. left_by_all s n us) (gone p) ∙ h.sofar p;
}
  where
    -- the arenas are the same whatever the pool
    no_words : FreeSpace
    no_words =
        record { geometry = record { top = 0; roots = 0; slots = 0 }; roots = 0; free = set.empty }
