-- What is counted of rows is what their state and their arenas hold.
-- For `check`.
use Rattle.std.proofs.Common.{◌≡◌, ℕ, suc, ◌+◌, Bool, true, false, cond, List, [], ◌∷◌, length}
use Rattle.std.proofs.Common.{Option, Some, None, inl, inr, refl, sym, ap, subst, ◌∙◌, arith, eqb}
use Rattle.std.proofs.Common.{is_some}
use Rattle.std.specs.Prelude.{T, ◌&&◌, filter, map}
use Rattle.std.specs.Str.{bytes_eq}
use Rattle.std.specs.Option.{option_map}
use Rattle.std.specs.Ordering.{nat_cmp, is_eq}
use Rattle.std.specs.declared.cmp.Ordering.{Ordering}
use Rattle.std.specs.declared.cmp.Ordering.TheVariants.{Less, Equal, Greater}
use Rattle.std.specs.Cmp.Lexicographic.{slice_cmp, nat_list_cmp_total}
use Rattle.std.specs.FinMap.{get, insert, len, empty, entries, find, put, is_sorted, get-empty}
use Rattle.std.specs.FinMap.{entries-insert, entries_sorted, get-entries, len-insert, len-empty}
use Rattle.std.specs.FinMap.{len-entries}
use Rattle.std.specs.FinMap.Entries.{length-put, below_all, by_order}
use Rattle.std.proofs.lemmas.Bool.{eqb-true, eq-eqb}
use Rattle.cm_pool.specs.declared.chunk.Chunk.{Chunk}
use Rattle.cm_pool.specs.Lists.{Among}
use Rattle.cm_class.specs.declared.class_file.ClassFile.{ClassFile}
use Rattle.cm_layout.specs.declared.class_row.ClassRow.{ClassRow}
use Rattle.cm_layout.specs.declared.row.Row.{Row}
use Rattle.cm_layout.specs.declared.row.Row.TheVariants.{Loader, Class}
use Rattle.cm_layout.specs.Rows.{name_of, number_of, numbers_in, classes_in}
use Rattle.cm_layout.specs.Rules.{is_live}
use Rattle.cm_layout.specs.Loaders.{LoadersDiffer}
use Rattle.cm_state.specs.State.{ByName, Shows, classes_of, loaders_among}
use Rattle.cm_state.specs.Stands.{Arenas, arenas_among, chunks_of}
use Rattle.cm_state.proofs.{got-insert, loader_found}
use Rattle.cm_maintenance.specs.Report.{chunks_together, chunk_count, first_records}

-- ---- loaders

pub loaders_counted : {A : Type 0} (shows : Shows A) (all rows : List (Row A)) → LoadersDiffer rows
    → len (loaders_among shows all rows) ≡ length (numbers_in rows)
loaders_counted {A} shows all [] differ = len-empty (slice_cmp nat_cmp) (ByName A)
loaders_counted {A} shows all (Loader r ∷ rows) differ =
    let m = loaders_among shows all rows in
    let new : get m r.name ≡ None =
    loader_found shows all rows r.name
    ∙ ap (option_map (λ u. classes_of shows u all)) differ.1 in
    let more : len (insert m r.name (classes_of shows r.number all)) ≡ len m + 1 =
    len-insert nat_list_cmp_total m r.name (classes_of shows r.number all)
    ∙ ap (λ (o : Option (ByName A)). cond (is_some o) (len m) (len m + 1)) new in
    let rest = loaders_counted shows all rows differ.2 in
    omega (arith, more, rest)
loaders_counted shows all (Class r c ∷ rows) differ = loaders_counted shows all rows differ

-- ---- chunks in a map of arenas

-- the chunks of one arena
weight : {A : Type 0} → Option (List A) → ℕ
weight None = 0
weight (Some chunks) = length chunks

second : (a b : Bool) → T (a && b) → T b
second true b h = h
second false b h = absurd h

not_found : {X : Type 0} (o : Option X) (n : ℕ)
    → suc (suc n) ≡ cond (is_some o) (suc n) (suc n + 1) → o ≡ None
not_found None n e = refl
not_found (Some x) n e = absurd (omega (arith, e))

together_put : {A : Type 0} (k : List ℕ) (v : List A) (es : List (List ℕ × List A))
    → T (is_sorted (slice_cmp nat_cmp) es)
    → chunks_together (put (slice_cmp nat_cmp) k v es) + weight (find (slice_cmp nat_cmp) k es)
    ≡ chunks_together es + length v
unfolding weight
together_put k v [] sorted = omega arith
together_put {A} k v (e ∷ es) sorted =
    by_place (slice_cmp nat_cmp k e.0)
    (length-put (slice_cmp nat_cmp) nat_list_cmp_total k v (e ∷ es) sorted)
    (together_put k v es
    (second (below_all (slice_cmp nat_cmp) e.0 es) (is_sorted (slice_cmp nat_cmp) es) sorted))
  where
    by_place : (o : Ordering)
        → length (by_order o ((k, v) ∷ e ∷ es) ((e.0, v) ∷ es) (e ∷ put (slice_cmp nat_cmp) k v es))
        ≡ cond (is_some (cond (is_eq o) (Some e.1) (find (slice_cmp nat_cmp) k es)))
        (suc (length es)) (suc (length es) + 1)
        → chunks_together (put (slice_cmp nat_cmp) k v es) + weight (find (slice_cmp nat_cmp) k es)
        ≡ chunks_together es + length v
        → chunks_together
        (by_order o ((k, v) ∷ e ∷ es) ((e.0, v) ∷ es) (e ∷ put (slice_cmp nat_cmp) k v es))
        + weight (cond (is_eq o) (Some e.1) (find (slice_cmp nat_cmp) k es))
        ≡ chunks_together (e ∷ es) + length v
    by_place Less long rest =
        let none : find (slice_cmp nat_cmp) k es ≡ None =
        not_found (find (slice_cmp nat_cmp) k es) (length es) long in
        let nothing : weight (find (slice_cmp nat_cmp) k es) ≡ 0 = ap weight none in
        omega (arith, nothing)
    by_place Equal long rest = omega arith
    by_place Greater long rest = omega (arith, rest)

together_insert : (m : Arenas) (k : List ℕ) (v : List Chunk) → get m k ≡ None
    → chunk_count (insert m k v) ≡ chunk_count m + length v
unfolding weight
together_insert m k v none =
    let grows : chunk_count (insert m k v) + weight (get m k) ≡ chunk_count m + length v =
    (λ i. chunks_together (entries-insert nat_list_cmp_total m k v i) + weight (get-entries m k i))
    ∙ together_put k v (entries m) (entries_sorted m) in
    let nothing : weight (get m k) ≡ 0 = ap weight none in
    omega (arith, grows, nothing)

none_together : (es : List (List ℕ × List Chunk)) → length es ≡ 0 → chunks_together es ≡ 0
none_together [] e = refl
none_together (x ∷ es) e = absurd (omega (arith, e))

count-empty : chunk_count empty ≡ 0
count-empty =
    none_together (entries empty)
    (sym (len-entries (empty {X = List Chunk} {R = slice_cmp nat_cmp}))
    ∙ len-empty (slice_cmp nat_cmp) (List Chunk))

no_arena : (classes : List ClassRow) (rows : List (Row ClassFile)) (x : List ℕ)
    → number_of x rows ≡ None → get (arenas_among classes rows) x ≡ None
no_arena classes [] x none = get-empty (slice_cmp nat_cmp) x
no_arena classes (Loader r ∷ rows) x none =
    got-insert (arenas_among classes rows) r.name (chunks_of r.number classes) x
    ∙ by_test (bytes_eq r.name x) (no_arena classes rows x) none
  where
    by_test : (t : Bool)
        → (number_of x rows ≡ None → get (arenas_among classes rows) x ≡ None)
        → cond t (Some r.number) (number_of x rows) ≡ None
        → cond t (Some (chunks_of r.number classes)) (get (arenas_among classes rows) x) ≡ None
    by_test true rest e = absurd (cc)
    by_test false rest e = rest e
no_arena classes (Class r c ∷ rows) x none = no_arena classes rows x none

-- ---- chunks of rows

-- for each loader among rows, its chunks
abbrev chunk_sum : {A : Type 0} → List ClassRow → List (Row A) → ℕ
chunk_sum classes [] = 0
chunk_sum classes (Loader r ∷ rows) = length (chunks_of r.number classes) + chunk_sum classes rows
chunk_sum classes (Class r c ∷ rows) = chunk_sum classes rows

arenas_counted : (classes : List ClassRow) (rows : List (Row ClassFile)) → LoadersDiffer rows
    → chunk_count (arenas_among classes rows) ≡ chunk_sum classes rows
arenas_counted classes [] differ = count-empty
arenas_counted classes (Loader r ∷ rows) differ =
    let more = together_insert (arenas_among classes rows) r.name (chunks_of r.number classes)
    (no_arena classes rows r.name differ.1) in
    let rest = arenas_counted classes rows differ.2 in
    omega (arith, more, rest)
arenas_counted classes (Class r c ∷ rows) differ = arenas_counted classes rows differ

eqb-sym : (a b : ℕ) → eqb a b ≡ eqb b a
eqb-sym a b = by_test (eqb a b) (eqb b a) refl refl
  where
    by_test : (t u : Bool) → eqb a b ≡ t → eqb b a ≡ u → t ≡ u
    by_test true true e f = refl
    by_test false false e f = refl
    by_test true false e f =
        let same : eqb b a ≡ true = eq-eqb b a (sym (eqb-true a b e)) in
        absurd (cc)
    by_test false true e f =
        let same : eqb a b ≡ true = eq-eqb a b (sym (eqb-true b a f)) in
        absurd (cc)

abbrev one_if : Bool → ℕ
one_if asked = cond asked 1 0

-- how often a loader of this number occurs among rows, if it is one that counts
abbrev hits : {A : Type 0} → ℕ → Bool → List (Row A) → ℕ
hits u asked [] = 0
hits u asked (Loader r ∷ rows) = cond (eqb r.number u && asked) 1 0 + hits u asked rows
hits u asked (Class r c ∷ rows) = hits u asked rows

none_hit : {A : Type 0} (u : ℕ) (asked : Bool) (rows : List (Row A)) → name_of u rows ≡ None
    → hits u asked rows ≡ 0
none_hit u asked [] none = refl
none_hit {A} u asked (Loader r ∷ rows) none =
    by_test (eqb r.number u) (none_hit u asked rows) none
  where
    by_test : (t : Bool) → (name_of u rows ≡ None → hits u asked rows ≡ 0)
        → cond t (Some r.name) (name_of u rows) ≡ None
        → cond (t && asked) 1 0 + hits u asked rows ≡ 0
    by_test true rest e = absurd (cc)
    by_test false rest e = let none = rest e in omega (arith, none)
none_hit u asked (Class r c ∷ rows) none = none_hit u asked rows none

one_hit : {A : Type 0} (u : ℕ) (asked : Bool) (rows : List (Row A)) → LoadersDiffer rows
    → is_live u rows ≡ true → hits u asked rows ≡ cond asked 1 0
one_hit u asked [] differ live = absurd (cc)
one_hit {A} u asked (Loader r ∷ rows) differ live =
    by_test (eqb r.number u) refl (one_hit u asked rows differ.2) live
  where
    by_test : (t : Bool) → eqb r.number u ≡ t
        → (is_live u rows ≡ true → hits u asked rows ≡ cond asked 1 0)
        → is_some (cond t (Some r.name) (name_of u rows)) ≡ true
        → cond (t && asked) 1 0 + hits u asked rows ≡ cond asked 1 0
    by_test true is rest e =
        let none : hits u asked rows ≡ 0 =
        none_hit u asked rows
        (subst (λ (v : ℕ). name_of v rows ≡ None) (eqb-true r.number u is) differ.0) in
        omega (arith, none)
    by_test false is rest e = let one = rest e in omega (arith, one)
one_hit u asked (Class r c ∷ rows) differ live = one_hit u asked rows differ live

one_more : (u : ℕ) (r : ClassRow) (classes : List ClassRow)
    → length (chunks_of u (r ∷ classes))
    ≡ cond (eqb r.loader u && eqb r.place.offset 0) 1 0 + length (chunks_of u classes)
one_more u r classes =
    by_test (eqb r.loader u && eqb r.place.offset 0)
    (filter (λ (s : ClassRow). eqb s.loader u && eqb s.place.offset 0) classes)
  where
    by_test : (t : Bool) (front : List ClassRow)
        → length (map (λ (s : ClassRow). s.place.chunk) (cond t (r ∷ front) front))
        ≡ cond t 1 0 + length (map (λ (s : ClassRow). s.place.chunk) front)
    by_test true front = omega arith
    by_test false front = omega arith

none_summed : {A : Type 0} (rows : List (Row A)) → chunk_sum [] rows ≡ 0
none_summed [] = refl
none_summed (Loader r ∷ rows) = let none = none_summed rows in omega (arith, none)
none_summed (Class r c ∷ rows) = none_summed rows

sum_more : {A : Type 0} (r : ClassRow) (classes : List ClassRow) (rows : List (Row A))
    → chunk_sum (r ∷ classes) rows
    ≡ hits r.loader (eqb r.place.offset 0) rows + chunk_sum classes rows
sum_more r classes [] = refl
sum_more r classes (Loader s ∷ rows) =
    let one = one_more s.number r classes in
    let rest = sum_more r classes rows in
    let hit = ap (λ (t : Bool). one_if (t && eqb r.place.offset 0)) (eqb-sym r.loader s.number) in
    omega (arith, one, hit, rest)
sum_more r classes (Class s c ∷ rows) = sum_more r classes rows

chunks_summed : {A : Type 0} (classes : List ClassRow) (rows : List (Row A)) → LoadersDiffer rows
    → ((r : ClassRow) → Among r classes → is_live r.loader rows ≡ true)
    → chunk_sum classes rows ≡ first_records classes
chunks_summed [] rows differ owned = none_summed rows
chunks_summed (r ∷ classes) rows differ owned =
    let more = sum_more r classes rows in
    let one = one_hit r.loader (eqb r.place.offset 0) rows differ (owned r (inl refl)) in
    let rest = chunks_summed classes rows differ (λ s among. owned s (inr among)) in
    omega (arith, more, one, rest)

pub chunks_counted : (rows : List (Row ClassFile)) → LoadersDiffer rows
    → ((r : ClassRow) → Among r (classes_in rows) → is_live r.loader rows ≡ true)
    → chunk_count (arenas_among (classes_in rows) rows) ≡ first_records (classes_in rows)
chunks_counted rows differ owned =
    arenas_counted (classes_in rows) rows differ ∙ chunks_summed (classes_in rows) rows differ owned
