-- Numbers of commands are above those of all live loaders.
-- On `sizes`, `rows`, `is_above`, for crates above.
use Rattle.std.proofs.Common.{◌≡◌, ℕ, ◌+◌, ◌<◌, ◌≤◌, Bool, true, false, cond, List, [], ◌∷◌, ◌++◌}
use Rattle.std.proofs.Common.{Some, None, refl, arith}
use Rattle.std.specs.Prelude.{◌&&◌, nat_lt, nat_le, not, ◌==◌}
use Rattle.std.specs.List.{list_all}
use Rattle.std.proofs.lemmas.Bool.{and_parts, and_from, ltb-true, lt-ltb, leb-true, eqb-true}
use Rattle.cm_pool.specs.Geometry.{Sizes}
use Rattle.cm_pool.specs.declared.chunk.Chunk.{Chunk}
use Rattle.cm_pool.specs.Chunks.{same_chunk}
use Rattle.cm_layout.specs.declared.entry_rule.EntryRule.TheVariants.{OnRows}
use Rattle.cm_layout.specs.declared.row.Row.{Row}
use Rattle.cm_layout.specs.declared.row.Row.TheVariants.{Loader, Class}
use Rattle.cm_layout.specs.declared.entry.Entry.{Entry}
use Rattle.cm_layout.specs.declared.entry.Entry.TheVariants as entry
use Rattle.cm_layout.specs.Rows.{numbers_in, without_loader, without_loaders, moved, rows_after}
use Rattle.cm_layout.specs.Rules.{broken_rule, broken_live_rule, is_new_loader}
use Rattle.cm_rows.specs.Rows.{is_above}

-- each loader's number is below n
abbrev AreBelow : {P : Type 0} → ℕ → List (Row P) → Type 0
AreBelow n [] = Unit {0}
AreBelow n (Loader r ∷ rows) = (r.number < n) × AreBelow n rows
AreBelow n (Class r p ∷ rows) = AreBelow n rows

below_from : {P : Type 0} (n : ℕ) (rows : List (Row P)) → is_above n rows ≡ true → AreBelow n rows
below_from n [] e = tt
below_from n (Loader r ∷ rows) e =
    let p = and_parts (nat_lt r.number n) (is_above n rows) e in
    (ltb-true r.number n p.0, below_from n rows p.1)
below_from n (Class r c ∷ rows) e = below_from n rows e

below_to : {P : Type 0} (n : ℕ) (rows : List (Row P)) → AreBelow n rows → is_above n rows ≡ true
below_to n [] b = refl
below_to n (Loader r ∷ rows) b =
    and_from (nat_lt r.number n) (is_above n rows) (lt-ltb r.number n b.0) (below_to n rows b.1)
below_to n (Class r c ∷ rows) b = below_to n rows b

below_more : {P : Type 0} (n m : ℕ) (rows : List (Row P)) → n ≤ m → AreBelow n rows
    → AreBelow m rows
below_more n m [] le b = tt
below_more n m (Loader r ∷ rows) le b = (omega (arith, b.0, le), below_more n m rows le b.1)
below_more n m (Class r c ∷ rows) le b = below_more n m rows le b

below_append : {P : Type 0} (n : ℕ) (xs ys : List (Row P)) → AreBelow n xs → AreBelow n ys
    → AreBelow n (xs ++ ys)
below_append n [] ys a b = b
below_append n (Loader r ∷ xs) ys a b = (a.0, below_append n xs ys a.1 b)
below_append n (Class r c ∷ xs) ys a b = below_append n xs ys a b

below_without : {P : Type 0} (n u : ℕ) (rows : List (Row P)) → AreBelow n rows
    → AreBelow n (without_loader u rows)
below_without n u [] b = tt
below_without {P} n u (Loader r ∷ rows) b =
    by_test (r.number == u) (below_without n u rows b.1)
  where
    by_test : (t : Bool) → AreBelow n (without_loader u rows)
        → AreBelow n (cond (not t) (Loader r ∷ without_loader u rows) (without_loader u rows))
    by_test true rest = rest
    by_test false rest = (b.0, rest)
below_without {P} n u (Class r c ∷ rows) b =
    by_test (r.loader == u) (below_without n u rows b)
  where
    by_test : (t : Bool) → AreBelow n (without_loader u rows)
        → AreBelow n (cond (not t) (Class r c ∷ without_loader u rows) (without_loader u rows))
    by_test true rest = rest
    by_test false rest = rest

below_moved : {P : Type 0} (n : ℕ) (from to : Chunk) (rows : List (Row P)) → AreBelow n rows
    → AreBelow n (moved from to rows)
below_moved n from to [] b = tt
below_moved n from to (Loader r ∷ rows) b = (b.0, below_moved n from to rows b.1)
below_moved {P} n from to (Class r c ∷ rows) b =
    by_test (same_chunk r.place.chunk from) (below_moved n from to rows b)
  where
    by_test : (t : Bool) → AreBelow n (moved from to rows)
        → AreBelow n (cond t (Class (record r { place = record r.place { chunk = to } }) c)
        (Class r c)
        ∷ moved from to rows)
    by_test true rest = rest
    by_test false rest = rest

below_without_all : {P : Type 0} (n : ℕ) (us : List ℕ) (rows : List (Row P)) → AreBelow n rows
    → AreBelow n (without_loaders us rows)
below_without_all n [] rows b = b
below_without_all n (u ∷ us) rows b =
    below_without_all n us (without_loader u rows) (below_without n u rows b)

kept : (t : Bool) → None ≡ cond t None (Some OnRows) → t ≡ true
kept true h = refl
kept false h = absurd (cc)

pub above_row : {P : Type 0} (sizes : Sizes) (n : ℕ) (rows : List (Row P)) (row : Row P)
    → None ≡ broken_live_rule sizes n rows row → is_above (n + 1) rows ≡ true
    → is_above (n + 1) (rows ++ row ∷ []) ≡ true
above_row sizes n rows (Loader r) keeps above =
    let all = kept (nat_le 1 r.number && nat_le r.number n
    && list_all (λ u. nat_lt u r.number) (numbers_in rows) && is_new_loader sizes rows r) keeps in
    let a = and_parts (nat_le 1 r.number && nat_le r.number n
    && list_all (λ u. nat_lt u r.number) (numbers_in rows)) (is_new_loader sizes rows r) all in
    let b = and_parts (nat_le 1 r.number && nat_le r.number n)
    (list_all (λ u. nat_lt u r.number) (numbers_in rows)) a.0 in
    let c = and_parts (nat_le 1 r.number) (nat_le r.number n) b.0 in
    let small : r.number < n + 1 = omega (arith, leb-true r.number n c.1) in
    below_to (n + 1) (rows ++ Loader r ∷ [])
    (below_append (n + 1) rows (Loader r ∷ []) (below_from (n + 1) rows above) (small, tt))
above_row sizes n rows (Class r p) keeps above =
    below_to (n + 1) (rows ++ Class r p ∷ [])
    (below_append (n + 1) rows (Class r p ∷ []) (below_from (n + 1) rows above) tt)

pub above_entry : {P : Type 0} (sizes : Sizes) (n : ℕ) (rows : List (Row P)) (e : Entry P)
    → None ≡ broken_rule sizes rows (n + 1) e → is_above (n + 1) rows ≡ true
    → is_above (n + 1 + 1) (rows_after rows e) ≡ true
above_entry sizes n rows (entry.Live (Loader r)) keeps above =
    let all = kept ((r.number == n + 1) && is_new_loader sizes rows r) keeps in
    let a = and_parts (r.number == n + 1) (is_new_loader sizes rows r) all in
    let small : r.number < n + 1 + 1 = omega (arith, eqb-true r.number (n + 1) a.0) in
    below_to (n + 1 + 1) (rows ++ Loader r ∷ [])
    (below_append (n + 1 + 1) rows (Loader r ∷ [])
    (below_more (n + 1) (n + 1 + 1) rows (omega arith) (below_from (n + 1) rows above)) (small, tt))
above_entry sizes n rows (entry.Live (Class r p)) keeps above =
    below_to (n + 1 + 1) (rows ++ Class r p ∷ [])
    (below_append (n + 1 + 1) rows (Class r p ∷ [])
    (below_more (n + 1) (n + 1 + 1) rows (omega arith) (below_from (n + 1) rows above)) tt)
above_entry sizes n rows (entry.Unload e) keeps above =
    below_to (n + 1 + 1) (without_loader e.loader rows) (below_without (n + 1 + 1) e.loader rows
    (below_more (n + 1) (n + 1 + 1) rows (omega arith) (below_from (n + 1) rows above)))
above_entry sizes n rows (entry.UnloadAll e) keeps above =
    below_to (n + 1 + 1) (without_loaders e.loaders rows) (below_without_all (n + 1 + 1) e.loaders
    rows (below_more (n + 1) (n + 1 + 1) rows (omega arith) (below_from (n + 1) rows above)))
above_entry sizes n rows (entry.Move e) keeps above =
    below_to (n + 1 + 1) (moved e.from e.to rows) (below_moved (n + 1 + 1) e.from e.to rows
    (below_more (n + 1) (n + 1 + 1) rows (omega arith) (below_from (n + 1) rows above)))
