-- Rows: their classes and loaders after each change.
-- For `LiveRows::apply_move`.
use Rattle.std.proofs.Common.{◌≡◌, ℕ, ◌≤◌, Bool, true, false, cond, eqb, List, [], ◌∷◌, ◌++◌, map}
use Rattle.std.proofs.Common.{length, Some, is_some, inl, inr, refl, sym, ap, arith}
use Rattle.std.specs.Prelude.{not, filter}
use Rattle.std.proofs.lemmas.Bool.{eqb-true, eq-eqb}
use Rattle.cm_pool.specs.declared.chunk.Chunk.{Chunk}
use Rattle.cm_pool.specs.Chunks.{same_chunk}
use Rattle.cm_pool.specs.Lists.{Among}
use Rattle.cm_layout.specs.declared.class_row.ClassRow.{ClassRow}
use Rattle.cm_layout.specs.declared.loader_row.LoaderRow.{LoaderRow}
use Rattle.cm_layout.specs.declared.row.Row.{Row}
use Rattle.cm_layout.specs.declared.row.Row.TheVariants.{Loader, Class}
use Rattle.cm_layout.specs.Rows.{classes_in, numbers_in, name_of}
use Rattle.cm_layout.specs.Rows.{without_loader, moved, bare}
use Rattle.cm_layout.specs.Rules.{is_live}
use Rattle.cm_rows.proofs.Classes.{moved_class}

module _ {P : Type 0} where
  pub classes-push_class : (rows : List (Row P)) (r : ClassRow) (k : P)
      → classes_in (rows ++ Class r k ∷ []) ≡ classes_in rows ++ r ∷ []
  classes-push_class [] r k = refl
  classes-push_class (Loader s ∷ rows) r k = classes-push_class rows r k
  classes-push_class (Class s p ∷ rows) r k = ap (λ l. s ∷ l) (classes-push_class rows r k)

  pub numbers-push_class : (rows : List (Row P)) (r : ClassRow) (k : P)
      → numbers_in (rows ++ Class r k ∷ []) ≡ numbers_in rows
  numbers-push_class [] r k = refl
  numbers-push_class (Loader s ∷ rows) r k = ap (λ l. s.number ∷ l) (numbers-push_class rows r k)
  numbers-push_class (Class s p ∷ rows) r k = numbers-push_class rows r k

  pub classes-push_loader : (rows : List (Row P)) (r : LoaderRow)
      → classes_in (rows ++ Loader r ∷ []) ≡ classes_in rows
  classes-push_loader [] r = refl
  classes-push_loader (Loader s ∷ rows) r = classes-push_loader rows r
  classes-push_loader (Class s p ∷ rows) r = ap (λ l. s ∷ l) (classes-push_loader rows r)

  pub numbers-push_loader : (rows : List (Row P)) (r : LoaderRow)
      → numbers_in (rows ++ Loader r ∷ []) ≡ numbers_in rows ++ r.number ∷ []
  numbers-push_loader [] r = refl
  numbers-push_loader (Loader s ∷ rows) r = ap (λ l. s.number ∷ l) (numbers-push_loader rows r)
  numbers-push_loader (Class s p ∷ rows) r = numbers-push_loader rows r

  pub classes-without : (u : ℕ) (rows : List (Row P))
      → classes_in (without_loader u rows) ≡ filter
      (λ (r : ClassRow). not (eqb r.loader u)) (classes_in rows)
  classes-without u [] = refl
  classes-without u (Loader s ∷ rows) = by_test (classes-without u rows) (eqb s.number u)
    where
      by_test : classes_in (without_loader u rows) ≡ filter
          (λ (r : ClassRow). not (eqb r.loader u)) (classes_in rows) → (t : Bool)
          → classes_in (cond (not t) (Loader s ∷ without_loader u rows) (without_loader u rows))
          ≡ filter (λ (r : ClassRow). not (eqb r.loader u)) (classes_in rows)
      by_test behind true = behind
      by_test behind false = behind
  classes-without u (Class s p ∷ rows) = by_test (classes-without u rows) (eqb s.loader u)
    where
      by_test : classes_in (without_loader u rows) ≡ filter
          (λ (r : ClassRow). not (eqb r.loader u)) (classes_in rows) → (t : Bool)
          → classes_in (cond (not t) (Class s p ∷ without_loader u rows) (without_loader u rows))
          ≡ cond (not t) (s ∷ filter (λ (r : ClassRow). not (eqb r.loader u)) (classes_in rows))
          (filter (λ (r : ClassRow). not (eqb r.loader u)) (classes_in rows))
      by_test behind true = behind
      by_test behind false = ap (λ l. s ∷ l) behind

  pub numbers-without : (u : ℕ) (rows : List (Row P))
      → numbers_in (without_loader u rows) ≡ filter (λ n. not (eqb n u)) (numbers_in rows)
  numbers-without u [] = refl
  numbers-without u (Loader s ∷ rows) = by_test (numbers-without u rows) (eqb s.number u)
    where
      by_test : numbers_in (without_loader u rows) ≡ filter (λ n. not (eqb n u)) (numbers_in rows)
          → (t : Bool)
          → numbers_in (cond (not t) (Loader s ∷ without_loader u rows) (without_loader u rows))
          ≡ cond (not t) (s.number ∷ filter (λ n. not (eqb n u)) (numbers_in rows))
          (filter (λ n. not (eqb n u)) (numbers_in rows))
      by_test behind true = behind
      by_test behind false = ap (λ l. s.number ∷ l) behind
  numbers-without u (Class s p ∷ rows) = by_test (numbers-without u rows) (eqb s.loader u)
    where
      by_test : numbers_in (without_loader u rows) ≡ filter (λ n. not (eqb n u)) (numbers_in rows)
          → (t : Bool)
          → numbers_in (cond (not t) (Class s p ∷ without_loader u rows) (without_loader u rows))
          ≡ filter (λ n. not (eqb n u)) (numbers_in rows)
      by_test behind true = behind
      by_test behind false = behind

  pub classes-moved : (from to : Chunk) (rows : List (Row P))
      → classes_in (moved from to rows) ≡ map (moved_class from to) (classes_in rows)
  classes-moved from to [] = refl
  classes-moved from to (Loader r ∷ rows) = classes-moved from to rows
  classes-moved from to (Class r p ∷ rows) =
      by_test (same_chunk r.place.chunk from) (classes-moved from to rows)
    where
      by_test : (t : Bool)
          → classes_in (moved from to rows) ≡ map (moved_class from to) (classes_in rows)
          → classes_in (cond t (Class (record r { place = record r.place { chunk = to } }) p)
          (Class r p) ∷ moved from to rows)
          ≡ cond t (record r { place = record r.place { chunk = to } }) r
          ∷ map (moved_class from to) (classes_in rows)
      by_test true behind = ap (λ l. record r { place = record r.place { chunk = to } } ∷ l) behind
      by_test false behind = ap (λ l. r ∷ l) behind

  pub length-moved : (from to : Chunk) (rows : List (Row P))
      → length (moved from to rows) ≡ length rows
  length-moved from to [] = refl
  length-moved from to (row ∷ rows) = omega (arith, length-moved from to rows)

  -- there are no more loaders than rows
  pub numbers-few : (rows : List (Row P)) → length (numbers_in rows) ≤ length rows
  numbers-few [] = omega arith
  numbers-few (Loader r ∷ rows) = omega (arith, numbers-few rows)
  numbers-few (Class r p ∷ rows) = omega (arith, numbers-few rows)

  -- a loader is live if its number is one of theirs
  pub live-among : (u : ℕ) (rows : List (Row P)) → Among u (numbers_in rows) → is_live u rows ≡ true
  live-among u [] none = absurd none
  live-among u (Loader r ∷ rows) m = by_test (live-among u rows) m (eqb r.number u) refl
    where
      by_test : (Among u (numbers_in rows) → is_live u rows ≡ true)
          → Among u (r.number ∷ numbers_in rows) → (t : Bool) → eqb r.number u ≡ t
          → is_some (cond t (Some r.name) (name_of u rows)) ≡ true
      by_test behind m true e = refl
      by_test behind (inl is) false e = let yes = eq-eqb r.number u (sym is) in absurd (cc)
      by_test behind (inr m) false e = behind m
  live-among u (Class r p ∷ rows) m = live-among u rows m

  pub among-live : (u : ℕ) (rows : List (Row P)) → (¬ Among u (numbers_in rows))
      → is_live u rows ≡ false
  among-live u [] n = refl
  among-live u (Loader r ∷ rows) n = by_test (among-live u rows
      (λ m. n (inr m))) (eqb r.number u) refl
    where
      by_test : is_live u rows ≡ false → (t : Bool) → eqb r.number u ≡ t
          → is_some (cond t (Some r.name) (name_of u rows)) ≡ false
      by_test behind true e = absurd (n (inl (sym (eqb-true r.number u e))))
      by_test behind false e = behind
  among-live u (Class r p ∷ rows) n = among-live u rows n

  -- ---- rows with nothing kept of a class

  pub classes-bare : (rows : List (Row P)) → classes_in (bare rows) ≡ classes_in rows
  classes-bare [] = refl
  classes-bare (Loader r ∷ rows) = classes-bare rows
  classes-bare (Class r p ∷ rows) = ap (λ l. r ∷ l) (classes-bare rows)

  pub numbers-bare : (rows : List (Row P)) → numbers_in (bare rows) ≡ numbers_in rows
  numbers-bare [] = refl
  numbers-bare (Loader r ∷ rows) = ap (λ l. r.number ∷ l) (numbers-bare rows)
  numbers-bare (Class r p ∷ rows) = numbers-bare rows
