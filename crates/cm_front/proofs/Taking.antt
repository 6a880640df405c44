-- Rows are taken into a space one after another.
-- For `Front::restore`, `take_rows`.
use Rattle.std.proofs.Common.{◌≡◌, ℕ, suc, ◌+◌, ◌-◌, ◌<◌, ◌≤◌, ◌⊎◌, Bool, true, false, cond, List}
use Rattle.std.proofs.Common.{[], ◌∷◌, ◌++◌, Some, None, inl, inr, refl, sym, ap, subst, ◌∙◌, arith}
use Rattle.std.proofs.Common.{eqb, append_assoc, append-nil}
use Rattle.std.specs.Prelude.{◌&&◌, nat_le, nat_lt, max, is_some, unwrap_or}
use Rattle.std.specs.List.{list_all}
use Rattle.std.specs.FinMap as fin
use Rattle.std.specs.Ordering.{nat_cmp}
use Rattle.std.proofs.lemmas.Bool.{ltb-true, and_parts, or_cases}
use Rattle.std.proofs.lemmas.List.{map-append}
use Rattle.cm_pool.specs.declared.chunk.Chunk.{Chunk}
use Rattle.cm_pool.specs.declared.place.Place.{Place}
use Rattle.cm_pool.specs.Geometry.{Sizes, IsGeometry}
use Rattle.cm_pool.specs.Chunks.{chunk_size}
use Rattle.cm_pool.specs.FreeSpace.{FreeSpace, IsFreeSpace, without}
use Rattle.cm_pool.specs.Lists.{Among}
use Rattle.cm_arena.specs.Placing.{with_place}
use Rattle.cm_layout.specs.declared.loader_row.LoaderRow.{LoaderRow}
use Rattle.cm_layout.specs.declared.class_row.ClassRow.{ClassRow}
use Rattle.cm_layout.specs.declared.row.Row.{Row}
use Rattle.cm_layout.specs.declared.row.Row.TheVariants.{Loader, Class}
use Rattle.cm_layout.specs.Rows.{classes_in, numbers_in, used_words, last_chunk, bare, row_with}
use Rattle.cm_layout.specs.Rules.{is_live, has_room, class_fits, has_place, is_chunk, is_last_chunk}
use Rattle.cm_layout.specs.Rules.{is_unused, broken_of, broken_live_rule, is_new_loader}
use Rattle.cm_layout.specs.Frames.{BareRow, LiveRowsKeep, AreApart}
use Rattle.cm_layout.proofs.{classes-bare, numbers-bare, last_chunk-among, classes_in-append}
use Rattle.cm_space.specs.Space.{SpaceState, IsKnown, arena_of, empty_space}
use Rattle.cm_space.specs.Adopting.{pool_after, reaching}
use Rattle.cm_space.specs.Ownership.{IsSpace}
use Rattle.cm_state.specs.State.{words_show}
use Rattle.cm_state.specs.Entries.{AreCacheRows}
use Rattle.cm_front.specs.Restoring.{roots_of, IsSpaceOf, CanTake, RestoresRow, IsOnTheWay}
use Rattle.cm_front.proofs.Chains.{chain_grows}
use Rattle.cm_front.proofs.RowFacts.{among_named}
use Rattle.cm_front.proofs.Goings.{known_loader, chains_loader}
use Rattle.cm_front.proofs.GoingsClass.{known_class, chains_class, name_bare}
use Rattle.cm_front.proofs.Adopting.{SpaceLaws, Stands, adoptable, roots_geometry, fits_kept}
use Rattle.cm_front.proofs.Adopting.{last_is}

-- ---- the rows before one

live_front : (sizes : Sizes) (n : ℕ) (pre xs ys : List BareRow)
    → LiveRowsKeep sizes n pre (xs ++ ys)
    → LiveRowsKeep sizes n pre xs
live_front sizes n pre [] ys k = tt
live_front sizes n pre (x ∷ xs) ys k = (k.0, k.1, live_front sizes n (pre ++ x ∷ []) xs ys k.2)

live_behind : (sizes : Sizes) (n : ℕ) (pre xs ys : List BareRow)
    → LiveRowsKeep sizes n pre (xs ++ ys)
    → LiveRowsKeep sizes n (pre ++ xs) ys
live_behind sizes n pre [] ys k =
    subst (λ l. LiveRowsKeep sizes n l ys) (sym (append-nil pre)) k
live_behind sizes n pre (x ∷ xs) ys k =
    subst (λ l. LiveRowsKeep sizes n l ys) (append_assoc pre (x ∷ []) xs)
    (live_behind sizes n (pre ++ x ∷ []) xs ys k.2)

still_among : {A : Type 0} (s : ClassRow) (xs ys : List (Row A)) → Among s (classes_in xs)
    → Among s (classes_in (xs ++ ys))
still_among s [] ys m = absurd m
still_among s (Loader r ∷ xs) ys m = still_among s xs ys m
still_among s (Class r p ∷ xs) ys (inl e) = inl e
still_among s (Class r p ∷ xs) ys (inr m) = inr (still_among s xs ys m)

-- what holds of a row and those before it
record IsNextRow (sizes : Sizes) (n : ℕ) (taken : List (Row (List ℕ)))
    (row : Row (List ℕ)) : Type 0 where
  live : LiveRowsKeep sizes n [] (bare taken)
  apart : AreApart (classes_in (bare taken))
  keeps : broken_live_rule sizes n (bare taken) (row_with (λ p. tt {0}) row) ≡ None

next_row : (sizes : Sizes) (n : ℕ) (rows taken rest : List (Row (List ℕ))) (row : Row (List ℕ))
    → AreCacheRows words_show sizes n rows → taken ++ row ∷ rest ≡ rows
    → IsNextRow sizes n taken row
next_row sizes n rows taken rest row cache split =
    let all = subst (λ l. AreCacheRows words_show sizes n l) (sym split) cache in
    let live = subst (λ l. LiveRowsKeep sizes n [] l)
    (map-append (row_with (λ p. tt {0})) taken (row ∷ rest)) all.live in
    record {
      live = live_front sizes n [] (bare taken) (bare (row ∷ rest)) live;
      apart = λ a b x y. all.apart a b
          (still_among a taken (row ∷ rest) (subst (λ l. Among a l) (classes-bare taken) x))
          (still_among b taken (row ∷ rest) (subst (λ l. Among b l) (classes-bare taken) y));
      keeps = (live_behind sizes n [] (bare taken) (bare (row ∷ rest)) live).1;
    }

-- ---- a loader

kept : {R : Type 0} (t : Bool) (r : R) → cond t None (Some r) ≡ None → t ≡ true
kept true r e = refl
kept false r e = absurd (cc)

below_all : (m : ℕ) (numbers : List ℕ) → list_all (λ u. nat_lt u m) numbers ≡ true → (u : ℕ)
    → Among u numbers → u < m
below_all m [] h u a = absurd a
below_all m (v ∷ numbers) h u (inl e) =
    subst (λ w. w < m) (sym e)
    (ltb-true v m (and_parts (nat_lt v m) (list_all (λ w. nat_lt w m) numbers) h).0)
below_all m (v ∷ numbers) h u (inr a) =
    below_all m numbers (and_parts (nat_lt v m) (list_all (λ w. nat_lt w m) numbers) h).1 u a

never_before : (sizes : Sizes) (n : ℕ) (taken : List (Row (List ℕ))) (r : LoaderRow)
    (space : SpaceState)
    → broken_live_rule sizes n (bare taken) (Loader r) ≡ None → IsSpaceOf sizes taken space
    → IsKnown space r.number → ⊥
never_before sizes n taken r space keeps s known =
    let some = nat_le 1 r.number in
    let past = nat_le r.number n in
    let above = list_all (λ u. nat_lt u r.number) (numbers_in (bare taken)) in
    let new = is_new_loader sizes (bare taken) r in
    let all = kept (some && past && above && new) _ keeps in
    let rises = (and_parts (some && past) above (and_parts (some && past && above) new all).0).1 in
    let among = among_named r.number taken ((s.known r.number).0 known) in
    let less = below_all r.number (numbers_in (bare taken)) rises r.number
    (subst (λ l. Among r.number l) (sym (numbers-bare taken)) among) in
    absurd (omega (arith, less))

took_loader : (sizes : Sizes) (taken : List (Row (List ℕ))) (r : LoaderRow) (old new : SpaceState)
    → (IsKnown old r.number → ⊥) → IsSpaceOf sizes taken old → RestoresRow (Loader r) old new
    → IsSpaceOf sizes (taken ++ Loader r ∷ []) new
took_loader sizes taken r old new never s t =
    subst (λ z. IsSpaceOf sizes (taken ++ Loader r ∷ []) z) (sym t.after)
    (record {
      matches = record {
        is = subst IsSpace t.after t.is;
        pool = s.matches.pool;
        geometry = s.matches.geometry;
        chains = chains_loader taken old r s.matches.chains never;
      };
      known = known_loader taken old r s.known;
      waiting = s.waiting;
      roots = s.roots ∙ ap roots_of
          (sym (classes_in-append taken (Loader r ∷ []) ∙ append-nil (classes_in taken)));
    })

-- ---- a class

roots_more : (classes : List ClassRow) (r : ClassRow)
    → roots_of (classes ++ r ∷ []) ≡ max (roots_of classes) (r.place.chunk.root + 1)
roots_more [] r = omega arith
roots_more (s ∷ classes) r = let rest = roots_more classes r in omega (arith, rest)

roots_least : (classes : List ClassRow) (s : ClassRow) → Among s classes
    → s.place.chunk.root + 1 ≤ roots_of classes
roots_least [] s m = absurd m
roots_least (r ∷ classes) s (inl e) =
    let same : s.place.chunk.root ≡ r.place.chunk.root =
    ap (λ (k : ClassRow). k.place.chunk.root) e in
    omega (arith, same)
roots_least (r ∷ classes) s (inr m) =
    let rest = roots_least classes s m in omega (arith, rest)

fits_live : (sizes : Sizes) (n : ℕ) (pre : List BareRow) (r : ClassRow)
    → broken_live_rule sizes n pre (Class r (tt {0})) ≡ None → is_live r.loader pre ≡ true
fits_live sizes n pre r keeps =
    (and_parts (is_live r.loader pre) (has_room sizes pre (Class r (tt {0})))
    (rows_kept (is_live r.loader pre && has_room sizes pre (Class r (tt {0})))
    (class_fits sizes pre r)
    keeps)).0
  where
    rows_kept : (a b : Bool) → broken_of a b ≡ None → a ≡ true
    rows_kept true b e = refl
    rows_kept false b e = absurd (cc)

fits_there : (sizes : Sizes) (n : ℕ) (pre : List BareRow) (r : ClassRow)
    → broken_live_rule sizes n pre (Class r (tt {0})) ≡ None → class_fits sizes pre r ≡ true
fits_there sizes n pre r keeps =
    fits_kept (is_live r.loader pre && has_room sizes pre (Class r (tt {0})))
    (class_fits sizes pre r) keeps

after_geometry : (p : FreeSpace) (place : Place) → (pool_after p place).geometry ≡ p.geometry
after_geometry p place = by_test (eqb place.offset 0)
  where
    by_test : (t : Bool)
        → (cond t (without (reaching p place.chunk.root) place.chunk) p).geometry ≡ p.geometry
    by_test true = roots_geometry p (suc place.chunk.root - p.roots)
    by_test false = refl

-- if a class isn't at a chunk's front, its chunk is that of a row before
on_row : (sizes : Sizes) (pre : List BareRow) (r : ClassRow) → class_fits sizes pre r ≡ true
    → eqb r.place.offset 0 ≡ false → r.place.chunk.root + 1 ≤ roots_of (classes_in pre)
on_row sizes pre r fits behind =
    let chunk = is_chunk sizes r.place.chunk in
    let words = nat_le 1 r.place.words in
    let within = nat_le (r.place.offset + r.place.words) (chunk_size r.place.chunk.order) in
    by_place (or_cases (is_last_chunk r.loader r.place.chunk pre
    && eqb r.place.offset (used_words r.place.chunk pre))
    (eqb r.place.offset 0 && is_unused r.place.chunk pre)
    (and_parts (chunk && words && within) (has_place pre r) fits).1)
  where
    true_not : {X : Type 0} → true ≡ false → X
    true_not e = absurd (cc)

    by_place : ((is_last_chunk r.loader r.place.chunk pre
        && eqb r.place.offset (used_words r.place.chunk pre)) ≡ true)
        ⊎ ((eqb r.place.offset 0 && is_unused r.place.chunk pre) ≡ true)
        → r.place.chunk.root + 1 ≤ roots_of (classes_in pre)
    by_place (inl e) =
        let last = last_is (last_chunk r.loader (classes_in pre)) r.place.chunk
        (and_parts (is_last_chunk r.loader r.place.chunk pre)
        (eqb r.place.offset (used_words r.place.chunk pre)) e).0 in
        let row = last_chunk-among r.loader (classes_in pre) r.place.chunk last in
        subst (λ (c : Chunk). c.root + 1 ≤ roots_of (classes_in pre)) row.3
        (roots_least (classes_in pre) row.0 row.1)
    by_place (inr e) =
        true_not (sym (and_parts (eqb r.place.offset 0) (is_unused r.place.chunk pre) e).0 ∙ behind)

after_roots : SpaceLaws → (sizes : Sizes) (pre : List BareRow) (r : ClassRow) (p : FreeSpace)
    → class_fits sizes pre r ≡ true → p.roots ≡ roots_of (classes_in pre)
    → (pool_after p r.place).roots ≡ roots_of (classes_in pre ++ r ∷ [])
after_roots laws sizes pre r p fits roots = by_test (eqb r.place.offset 0) refl ∙ sym more
  where
    more : roots_of (classes_in pre ++ r ∷ [])
        ≡ max (roots_of (classes_in pre)) (r.place.chunk.root + 1)
    more = roots_more (classes_in pre) r

    by_test : (t : Bool) → eqb r.place.offset 0 ≡ t
        → (cond t (without (reaching p r.place.chunk.root) r.place.chunk) p).roots
        ≡ max (roots_of (classes_in pre)) (r.place.chunk.root + 1)
    by_test true e =
        laws.reach p r.place.chunk.root ∙ ap (λ k. max k (r.place.chunk.root + 1)) roots
    by_test false e =
        let least = on_row sizes pre r fits e in
        omega (arith, roots, least)

stands : (sizes : Sizes) (n : ℕ) (taken : List (Row (List ℕ))) (row : Row (List ℕ))
    (space : SpaceState)
    → IsGeometry sizes → IsNextRow sizes n taken row → IsSpaceOf sizes taken space
    → Stands sizes n (bare taken) space
stands sizes n taken row space lawful next s = record {
  lawful = lawful;
  live = next.live;
  apart = next.apart;
  matches = s.matches;
  waiting = s.waiting;
}

took_class : SpaceLaws → (sizes : Sizes) (n : ℕ) (taken : List (Row (List ℕ))) (r : ClassRow)
    (words : List ℕ) (old new : SpaceState) → IsNextRow sizes n taken (Class r words)
    → IsSpaceOf sizes taken old → RestoresRow (Class r words) old new
    → IsSpaceOf sizes (taken ++ Class r words ∷ []) new
took_class laws sizes n taken r words old new next s t =
    let chain = with_place (arena_of old r.loader) r.place in
    let left = pool_after old.pool r.place in
    let fits = fits_there sizes n (bare taken) r next.keeps in
    let live : is_live r.loader taken ≡ true =
    ap is_some (sym (name_bare r.loader taken)) ∙ fits_live sizes n (bare taken) r next.keeps in
    subst (λ z. IsSpaceOf sizes (taken ++ Class r words ∷ []) z) (sym t.after)
    (record {
      matches = record {
        is = subst IsSpace t.after t.is;
        pool = subst (λ (z : SpaceState). IsFreeSpace z.pool) t.after t.pool;
        geometry = after_geometry old.pool r.place ∙ s.matches.geometry;
        chains = chains_class taken old r words chain left s.matches.chains
            (ap (λ l. with_place l r.place) (s.matches.chains r.loader)
            ∙ sym (chain_grows r.loader (bare taken) r refl));
      };
      known = known_class taken old r words chain left s.known live;
      waiting = s.waiting;
      roots =
          after_roots laws sizes (bare taken) r old.pool fits
          (s.roots ∙ ap roots_of (sym (classes-bare taken)))
          ∙ ap roots_of (ap (λ l. l ++ r ∷ []) (classes-bare taken)
          ∙ sym (classes_in-append taken (Class r words ∷ [])));
    })

-- ---- any row

pub can_take : SpaceLaws
    → (sizes : Sizes) (n : ℕ) (rows rest : List (Row (List ℕ))) (row : Row (List ℕ))
    (space : SpaceState) → IsGeometry sizes → AreCacheRows words_show sizes n rows
    → IsOnTheWay sizes rows (row ∷ rest) space → CanTake row space
can_take laws sizes n rows rest (Loader r) space lawful cache way =
    let next = next_row sizes n rows way.taken rest (Loader r) cache way.split in
    never_before sizes n way.taken r space next.keeps way.so_far
can_take laws sizes n rows rest (Class r words) space lawful cache way =
    let next = next_row sizes n rows way.taken rest (Class r words) cache way.split in
    let live : is_live r.loader way.taken ≡ true =
    ap is_some (sym (name_bare r.loader way.taken))
    ∙ fits_live sizes n (bare way.taken) r next.keeps in (
      (way.so_far.known r.loader).1 live,
      adoptable laws sizes n (bare way.taken) space
          (stands sizes n way.taken (Class r words) space lawful next way.so_far) r
          (fits_there sizes n (bare way.taken) r next.keeps),
    )

pub took : SpaceLaws → (sizes : Sizes) (n : ℕ) (rows rest : List (Row (List ℕ)))
    (row : Row (List ℕ))
    (old new : SpaceState) → IsGeometry sizes → AreCacheRows words_show sizes n rows
    → IsOnTheWay sizes rows (row ∷ rest) old → RestoresRow row old new
    → IsOnTheWay sizes rows rest new
took laws sizes n rows rest row old new lawful cache way t = record {
  taken = way.taken ++ row ∷ [];
  split = append_assoc way.taken (row ∷ []) rest ∙ way.split;
  so_far = by_row row (next_row sizes n rows way.taken rest row cache way.split)
      (can_take laws sizes n rows rest row old lawful cache way) t;
}
  where
    by_row : (row : Row (List ℕ)) → IsNextRow sizes n way.taken row → CanTake row old
        → RestoresRow row old new → IsSpaceOf sizes (way.taken ++ row ∷ []) new
    by_row (Loader r) next can t = took_loader sizes way.taken r old new can way.so_far t
    by_row (Class r words) next can t =
        took_class laws sizes n way.taken r words old new next way.so_far t

-- ---- no row

pub none_taken : (sizes geometry : Sizes) (space : SpaceState) → sizes ≡ geometry
    → space ≡ empty_space geometry → IsSpace space → IsFreeSpace space.pool
    → IsSpaceOf sizes [] space
none_taken sizes geometry space same is whole free =
    subst (λ z. IsSpaceOf sizes [] z) (sym is)
    (record {
      matches = record {
        is = subst IsSpace is whole;
        pool = subst (λ (z : SpaceState). IsFreeSpace z.pool) is free;
        geometry = sym same;
        chains = λ u. ap (λ o. unwrap_or o []) (nothing u);
      };
      known = λ u. (
        λ h. absurd (not_there (sym (ap is_some (nothing u)) ∙ h)),
        λ h. absurd (not_there h),
      );
      waiting = refl;
      roots = refl;
    })
  where
    nothing : (u : ℕ) → fin.get (empty_space geometry).arenas u ≡ None
    nothing u = fin.get-empty nat_cmp u

    not_there : false ≡ true → ⊥
    not_there h = absurd (cc)
