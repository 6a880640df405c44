-- The live items of places that are joined, changed, swept and unloaded.
-- For `IndexBlock::sweep`, `add_entry`, `block_of` and others.
use Rattle.std.proofs.Common.{◌≡◌, ℕ, suc, ◌≤◌, Bool, true, false, cond, List, []}
use Rattle.std.proofs.Common.{◌∷◌, ◌++◌, map, length, refl, ◌∙◌, ap, arith}
use Rattle.std.specs.Prelude.{not, ◌&&◌}
use Rattle.std.specs.List.{AllByRecursion}
use Rattle.cm_pool.specs.declared.chunk.Chunk.{Chunk}
use Rattle.cm_layout.specs.declared.row.Row.{Row}
use Rattle.cm_layout.specs.Rows.{is_of, without_loader, moved, moved_row}
use Rattle.cm_index.specs.declared.slot.BookSlot.{BookSlot}
use Rattle.cm_index.specs.Living.{living, swept, unloaded, moved_slot}

module _ {X : Type 0} where
  pub living-append : (xs ys : List (BookSlot X)) → living (xs ++ ys) ≡ living xs ++ living ys
  living-append [] ys = refl
  living-append (s ∷ xs) ys = by_test s.live (living-append xs ys)
    where
      by_test : (t : Bool) → living (xs ++ ys) ≡ living xs ++ living ys
          → cond t (s.item ∷ living (xs ++ ys)) (living (xs ++ ys))
          ≡ cond t (s.item ∷ living xs) (living xs) ++ living ys
      by_test true behind = ap (λ l. s.item ∷ l) behind
      by_test false behind = behind

  living-one : (s : BookSlot X) → s.live ≡ true → living (s ∷ []) ≡ s.item ∷ []
  living-one s h = ap (λ (t : Bool). cond t (s.item ∷ []) []) h

  -- one more live item
  pub living-push : (xs : List (BookSlot X)) (s : BookSlot X) → s.live ≡ true
      → living (xs ++ s ∷ []) ≡ living xs ++ s.item ∷ []
  living-push xs s h = living-append xs (s ∷ []) ∙ ap (λ l. living xs ++ l) (living-one s h)

  pub living-swept : (xs : List (BookSlot X)) → living (swept xs) ≡ living xs
  living-swept [] = refl
  living-swept (s ∷ xs) = by_test s.live refl (living-swept xs)
    where
      by_test : (t : Bool) → s.live ≡ t → living (swept xs) ≡ living xs
          → living (cond t (s ∷ swept xs) (swept xs)) ≡ cond t (s.item ∷ living xs) (living xs)
      by_test true e behind = rw (e) (ap (λ l. s.item ∷ l) behind)
      by_test false e behind = behind

  pub swept-live : (xs : List (BookSlot X)) → AllByRecursion (λ s. s.live ≡ true) (swept xs)
  swept-live [] = tt
  swept-live (s ∷ xs) = by_test s.live refl (swept-live xs)
    where
      by_test : (t : Bool) → s.live ≡ t → AllByRecursion (λ s. s.live ≡ true) (swept xs)
          → AllByRecursion (λ s. s.live ≡ true) (cond t (s ∷ swept xs) (swept xs))
      by_test true e behind = (e, behind)
      by_test false e behind = behind

  -- as many are left as live
  pub length-swept : (xs : List (BookSlot X)) → length (swept xs) ≡ length (living xs)
  length-swept [] = refl
  length-swept (s ∷ xs) = by_test s.live (length-swept xs)
    where
      by_test : (t : Bool) → length (swept xs) ≡ length (living xs)
          → length (cond t (s ∷ swept xs) (swept xs))
          ≡ length (cond t (s.item ∷ living xs) (living xs))
      by_test true behind = ap suc behind
      by_test false behind = behind

  pub length-living : (xs : List (BookSlot X)) → length (living xs) ≤ length xs
  length-living [] = omega arith
  length-living (s ∷ xs) = by_test s.live (length-living xs)
    where
      by_test : (t : Bool) → length (living xs) ≤ length xs
          → length (cond t (s.item ∷ living xs) (living xs)) ≤ suc (length xs)
      by_test true behind = omega (arith, behind)
      by_test false behind = omega (arith, behind)

module _ {P : Type 0} where
  pub living-unloaded : (u : ℕ) (xs : List (BookSlot (Row P)))
      → living (map (unloaded u) xs) ≡ without_loader u (living xs)
  living-unloaded u [] = refl
  living-unloaded u (s ∷ xs) = by_tests s.live (is_of u s.item) refl (living-unloaded u xs)
    where
      by_tests : (t o : Bool) → is_of u s.item ≡ o → living (map (unloaded u) xs)
          ≡ without_loader u (living xs)
          → cond (t && not o) (s.item ∷ living (map (unloaded u) xs)) (living (map (unloaded u) xs))
          ≡ without_loader u (cond t (s.item ∷ living xs) (living xs))
      by_tests true true e behind = rw (e) behind
      by_tests true false e behind = rw (e) (ap (λ l. s.item ∷ l) behind)
      by_tests false o e behind = behind

  pub living-moved : (from to : Chunk) (xs : List (BookSlot (Row P)))
      → living (map (moved_slot from to) xs) ≡ moved from to (living xs)
  living-moved from to [] = refl
  living-moved from to (s ∷ xs) = by_test s.live (living-moved from to xs)
    where
      by_test : (t : Bool) → living (map (moved_slot from to) xs) ≡ moved from to (living xs)
          → cond t (cond t (moved_row from to s.item) s.item ∷ living (map (moved_slot from to) xs))
          (living (map (moved_slot from to) xs))
          ≡ moved from to (cond t (s.item ∷ living xs) (living xs))
      by_test true behind = ap (λ l. moved_row from to s.item ∷ l) behind
      by_test false behind = behind
