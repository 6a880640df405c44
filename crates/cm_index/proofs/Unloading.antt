-- The index once a loader is unloaded, and names that differ.
-- On `AreUnique`, `IsIndex`, `unloaded`, for crates above.
use Rattle.std.proofs.Common.{◌≡◌, ℕ, ◌⊎◌, Bool, true, false, cond, List}
use Rattle.std.proofs.Common.{[], ◌∷◌, ◌++◌, map, Option, Some, None}
use Rattle.std.proofs.Common.{refl, sym, ◌∙◌, ap, subst, arith, inl, inr}
use Rattle.std.specs.Prelude.{not, filter, ◌&&◌}
use Rattle.std.specs.Option.{option_map}
use Rattle.std.specs.List.{AllByRecursion, find, slice_get}
use Rattle.std.proofs.lemmas.List.{length-map}
use Rattle.cm_pool.specs.declared.chunk.Chunk.{Chunk}
use Rattle.cm_pool.specs.Chunks.{same_chunk}
use Rattle.cm_pool.specs.Lists.{Among}
use Rattle.cm_pool.proofs.{among-push, among-filter_from}
use Rattle.cm_layout.specs.declared.loader_row.LoaderRow.{LoaderRow}
use Rattle.cm_layout.specs.declared.class_row.ClassRow.{ClassRow}
use Rattle.cm_layout.specs.declared.row.Row.{Row}
use Rattle.cm_layout.specs.declared.row.Row.TheVariants.{Loader, Class}
use Rattle.cm_layout.specs.Rows.{is_of, without_loader, number_of, moved, bare}
use Rattle.std.specs.Str.{bytes_eq}
use Rattle.std.proofs.lemmas.Slice.Eq.{bytes_eq-Decides}
use Rattle.std.proofs.lemmas.Option.{slice_get-map}
use Rattle.cm_index.specs.declared.index.IndexEntry.{IndexEntry}
use Rattle.cm_index.specs.declared.slot.BookSlot.{BookSlot}
use Rattle.cm_index.specs.Living.{living, unloaded}
use Rattle.cm_index.specs.Index.{owner_of, rank, name_in, is_named, key, tail_at, key_at, keys_at}
use Rattle.cm_index.specs.Index.{IsEntry, IsIndex, AreUnique, ReachesRow}
use Rattle.cm_index.proofs.Living.{living-unloaded}
use Rattle.cm_index.proofs.Sorted.{all-among}
use Rattle.cm_index.proofs.Indexes.{find-true, named-is, leads-is}

find-filter : {X : Type 0} (p q : X → Bool) (xs : List X) (x : X) → find p xs ≡ Some x
    → q x ≡ true → find p (filter q xs) ≡ Some x
find-filter p q [] x h t = absurd (cc)
find-filter p q (y ∷ xs) x h t = by_tests (find-filter p q xs x) (p y) (q y) refl refl h
  where
    by_tests : (find p xs ≡ Some x → q x ≡ true → find p (filter q xs) ≡ Some x) → (a b : Bool)
        → p y ≡ a → q y ≡ b → cond a (Some y) (find p xs) ≡ Some x
        → find p (cond b (y ∷ filter q xs) (filter q xs)) ≡ Some x
    by_tests behind true true e f h = rw (e) h
    by_tests behind true false e f h =
        let is : y ≡ x = cc in
        let same : q y ≡ q x = ap q is in
        absurd (cc)
    by_tests behind false true e f h = rw (e) (behind h t)
    by_tests behind false false e f h = behind h t

found-before : {X : Type 0} (p q : X → Bool) (xs : List X) (x : X)
    → find p (filter q xs) ≡ Some x → (z : X) × (find p xs ≡ Some z)
found-before p q [] x h = absurd (cc)
found-before {X = X} p q (y ∷ xs) x h = by_tests (found-before p q xs x) (p y) (q y) refl refl h
  where
    by_tests : (find p (filter q xs) ≡ Some x → (z : X) × (find p xs ≡ Some z)) → (a b : Bool)
        → p y ≡ a → q y ≡ b → find p (cond b (y ∷ filter q xs) (filter q xs)) ≡ Some x
        → (z : X) × (cond a (Some y) (find p xs) ≡ Some z)
    by_tests behind true b e f h = (y, refl)
    by_tests behind false true e f h =
        let later : cond (p y) (Some y) (find p (filter q xs)) ≡ Some x = h in
        behind (subst (λ (t : Bool). cond t (Some y) (find p (filter q xs)) ≡ Some x) e later)
    by_tests behind false false e f h = behind h

find-among : {X : Type 0} (p : X → Bool) (xs : List X) (x : X) → find p xs ≡ Some x → Among x xs
find-among p [] x h = absurd (cc)
find-among p (y ∷ xs) x h = by_test (find-among p xs x) (p y) h
  where
    by_test : (find p xs ≡ Some x → Among x xs) → (t : Bool)
        → cond t (Some y) (find p xs) ≡ Some x → Among x (y ∷ xs)
    by_test behind true h = let is : y ≡ x = cc in inl (sym is)
    by_test behind false h = inr (behind h)

not-not : (b : Bool) → not b ≡ true → b ≡ false
not-not true h = absurd (cc)
not-not false h = refl

-- ---- the index after an unload, when a loader's rows are dead

module _ {P : Type 0} (mark : ℕ → List ℕ → ℕ) (name_of : P → List ℕ) (u : ℕ) where
  -- rows of one owner and one name are all of one loader, or none is
  same-loader : (rows : List (Row P)) → AreUnique rows → (r s : Row P) → Among r rows → Among s rows
      → rank (owner_of r) ≡ rank (owner_of s) → name_in name_of r ≡ name_in name_of s
      → is_of u r ≡ is_of u s
  same-loader rows unique (Loader a) (Loader b) m n o x =
      ap (λ (v : ℕ). is_of {P = P} u (Loader (record { number = v; name = a.name })))
      (unique.names a b m n x)
  same-loader rows unique (Loader a) (Class b q) m n o x = absurd (omega (arith, o))
  same-loader rows unique (Class a p) (Loader b) m n o x = absurd (omega (arith, o))
  same-loader rows unique (Class a p) (Class b q) m n o x =
      let same : a.loader ≡ b.loader = omega (arith, o) in
      ap (λ (v : ℕ). is_of {P = P} u (Class (record { loader = v; place = a.place }) p)) same

  living-on : (s : BookSlot (Row P)) → (s.live && not (is_of u s.item)) ≡ true
      → (s.live ≡ true) × (is_of u s.item ≡ false)
  living-on s h = by_tests s.live (is_of u s.item) h
    where
      by_tests : (a b : Bool) → (a && not b) ≡ true → (a ≡ true) × (b ≡ false)
      by_tests true true h = absurd (cc)
      by_tests true false h = (refl, refl)
      by_tests false b h = absurd (cc)

  entry-unloaded : (slots : List (BookSlot (Row P))) (e : IndexEntry) → IsEntry mark name_of slots e
      → IsEntry mark name_of (map (unloaded u) slots) e
  entry-unloaded slots e h =
      let test = is_named name_of (rank (owner_of h.slot.item)) (name_in name_of h.slot.item) in
      record {
        slot = unloaded u h.slot;
        there = slice_get-map (unloaded u) slots e.at ∙ ap (option_map (unloaded u)) h.there;
        fingerprint = h.fingerprint;
        first = λ live.
            let on = living-on h.slot live in
            ap (find test) (living-unloaded u slots)
            ∙ find-filter test (λ row. not (is_of u row)) (living slots) h.slot.item
            (h.first on.0) (ap not on.1);
      }

  each-unloaded : (slots : List (BookSlot (Row P))) (es : List IndexEntry)
      → AllByRecursion (IsEntry mark name_of slots) es
      → AllByRecursion (IsEntry mark name_of (map (unloaded u) slots)) es
  each-unloaded slots [] h = tt
  each-unloaded slots (e ∷ es) h = (entry-unloaded slots e h.0, each-unloaded slots es h.1)

  key-unloaded : (slots : List (BookSlot (Row P))) (e : IndexEntry) (s : BookSlot (Row P))
      → slice_get slots e.at ≡ Some s
      → key_at name_of (map (unloaded u) slots) e ≡ key_at name_of slots e
  key-unloaded slots e s is =
      ap (λ (r : Option (BookSlot (Row P))). e.fingerprint ∷ tail_at name_of r)
      (slice_get-map (unloaded u) slots e.at ∙ ap (option_map (unloaded u)) is)
      ∙ ap (λ (r : Option (BookSlot (Row P))). e.fingerprint ∷ tail_at name_of r) (sym is)

  keys-unloaded : (slots : List (BookSlot (Row P))) (es : List IndexEntry)
      → AllByRecursion (IsEntry mark name_of slots) es
      → keys_at name_of (map (unloaded u) slots) es ≡ keys_at name_of slots es
  keys-unloaded slots [] h = refl
  keys-unloaded slots (e ∷ es) h =
      ap (λ (k : List ℕ). k ∷ keys_at name_of (map (unloaded u) slots) es)
      (key-unloaded slots e h.0.slot h.0.there)
      ∙ ap (λ (ks : List (List ℕ)). key_at name_of slots e ∷ ks) (keys-unloaded slots es h.1)

  complete-unloaded : (slots : List (BookSlot (Row P))) (es : List IndexEntry)
      → AreUnique (living slots)
      → IsIndex mark name_of slots es → (o : ℕ) (x : List ℕ) (row : Row P)
      → find (is_named name_of o x) (without_loader u (living slots)) ≡ Some row
      → ReachesRow name_of (map (unloaded u) slots) es (key mark o x)
  complete-unloaded slots es unique h o x row is =
      let rows = living slots in
      let all = map (unloaded u) slots in
      let test = is_named name_of o x in
      let before = found-before test (λ row. not (is_of u row)) rows row is in
      let l = h.complete o x before.0 before.1 in
      let entry = all-among (IsEntry mark name_of slots) es l.entry h.each l.among in
      let s = entry.slot in
      let live : s.live ≡ true = sym (leads-is slots l.entry s entry.there) ∙ l.lives in
      let keys : l.entry.fingerprint ∷ rank (owner_of s.item) ∷ name_in name_of s.item
      ≡ mark o x ∷ o ∷ x = ap
      (λ (r : Option (BookSlot (Row P))). l.entry.fingerprint ∷ tail_at name_of r) (sym entry.there)
      ∙ l.key_is in
      let owner : rank (owner_of s.item) ≡ o = cc in
      let name : name_in name_of s.item ≡ x = cc in
      let first = entry.first live in
      let among =
      among-filter_from (λ row. not (is_of u row)) row rows
      (find-among test (without_loader u rows) row is) in
      let two = named-is name_of o x row (find-true test (without_loader u rows) row is) in
      let there =
      find-among (is_named name_of (rank (owner_of s.item)) (name_in name_of s.item)) rows
      s.item first in
      let loaders : is_of u s.item ≡ is_of u row =
      same-loader rows unique s.item row there among.0 (owner ∙ sym two.0) (name ∙ sym two.1) in
      let other : is_of u s.item ≡ false = loaders ∙ not-not (is_of u row) among.1 in
      let gone : slice_get all l.entry.at ≡ Some (unloaded u s) =
      slice_get-map (unloaded u) slots l.entry.at ∙ ap (option_map (unloaded u)) entry.there in
      record {
        entry = l.entry;
        among = l.among;
        key_is = key-unloaded slots l.entry s entry.there ∙ l.key_is;
        lives = leads-is all l.entry (unloaded u s) gone ∙ (λ i. live i && not (other i));
      }

  pub index-unloaded : (slots : List (BookSlot (Row P))) (es : List IndexEntry)
      → AreUnique (living slots)
      → IsIndex mark name_of slots es → IsIndex mark name_of (map (unloaded u) slots) es
  index-unloaded slots es unique h =
      let keys = keys-unloaded slots es h.each in
      record {
        each = each-unloaded slots es h.each;
        rises = rw (keys) h.rises;
        complete =
            λ o x row is. complete-unloaded slots es unique h o x row
            (ap (find (is_named name_of o x)) (sym (living-unloaded u slots)) ∙ is);
        few = omega (arith, h.few, length-map slots (unloaded {P = P} u));
      }

-- ---- names that differ

loader-is : {Q : Type 0} (r s : LoaderRow) (x : Row Q) → x ≡ Loader r → x ≡ Loader s → r ≡ s
loader-is r s x e f = cc

module _ {P : Type 0} where
  named-among : (r : LoaderRow) (rows : List (Row P)) → Among (Loader r) rows
      → ¬ (number_of r.name rows ≡ None)
  named-among r [] m = absurd m
  named-among r (Loader s ∷ rows) m = by_test (named-among r rows) m (bytes_eq s.name r.name) refl
    where
      by_test : (Among (Loader r) rows → ¬ (number_of r.name rows ≡ None))
          → Among (Loader r) (Loader s ∷ rows) → (t : Bool) → bytes_eq s.name r.name ≡ t
          → ¬ (cond t (Some s.number) (number_of r.name rows) ≡ None)
      by_test behind m true e = λ none. absurd (cc)
      by_test behind (inl is) false e =
          let names : s.name ≡ r.name = ap (λ (x : Row P). loader_name x) (sym is) in
          let yes = (bytes_eq-Decides s.name r.name).1 names in
          absurd (cc)
        where
          loader_name : Row P → List ℕ
          loader_name (Loader r) = r.name
          loader_name (Class r p) = []
      by_test behind (inr m) false e = behind m
  named-among r (Class s p ∷ rows) (inl is) = absurd (cc)
  named-among r (Class s p ∷ rows) (inr m) = named-among r rows m

  abbrev own_row : LoaderRow → Row P
  own_row r = Loader r

  loader-same : (r s : LoaderRow) → own_row r ≡ own_row s → r ≡ s
  loader-same r s e = cc

  pub unique-loader : (rows : List (Row P)) (r : LoaderRow) → AreUnique rows
      → number_of r.name rows ≡ None → AreUnique (rows ++ Loader r ∷ [])
  unique-loader rows r h none =
      record {
        names = λ a b m n x. by_place a b x (among-push (Loader a) (Loader r) rows m)
            (among-push (Loader b) (Loader r) rows n);
      }
    where
      by_place : (a b : LoaderRow) → a.name ≡ b.name → Among (own_row a) rows
          ⊎ (own_row a ≡ own_row r) → Among (own_row b) rows ⊎ (own_row b ≡ own_row r)
          → a.number ≡ b.number
      by_place a b x (inl m) (inl n) = h.names a b m n x
      by_place a b x (inl m) (inr f) =
          let is = loader-same b r f in
          absurd (named-among a rows m
          (ap (λ (y : List ℕ). number_of y rows) (x ∙ ap (λ (l : LoaderRow). l.name) is)
          ∙ none))
      by_place a b x (inr e) (inl n) =
          let is = loader-same a r e in
          absurd (named-among b rows n
          (ap (λ (y : List ℕ). number_of y rows) (sym x ∙ ap (λ (l : LoaderRow). l.name) is)
          ∙ none))
      by_place a b x (inr e) (inr f) =
          ap (λ (l : LoaderRow). l.number) (loader-same a r e ∙ sym (loader-same b r f))

  pub unique-class : (rows : List (Row P)) (r : ClassRow) (k : P) → AreUnique rows
      → AreUnique (rows ++ Class r k ∷ [])
  unique-class rows r k h =
      record {
        names = λ a b m n x. h.names a b (old a (among-push (Loader a) (Class r k) rows m))
            (old b (among-push (Loader b) (Class r k) rows n)) x;
      }
    where
      old : (a : LoaderRow) → Among (Loader a) rows ⊎ (Loader a ≡ Class r k) → Among (Loader a) rows
      old a (inl m) = m
      old a (inr e) = absurd (cc)

  pub unique-without : (u : ℕ) (rows : List (Row P)) → AreUnique rows
      → AreUnique (without_loader u rows)
  unique-without u rows h =
      record {
        names = λ a b m n x.
            h.names a b (among-filter_from (λ row. not (is_of u row)) (Loader a) rows m).0
            (among-filter_from (λ row. not (is_of u row)) (Loader b) rows n).0 x;
      }

  moved-loader : (from to : Chunk) (a : LoaderRow) (rows : List (Row P))
      → Among (Loader a) (moved from to rows) → Among (Loader a) rows
  moved-loader from to a [] m = absurd m
  moved-loader from to a (Loader r ∷ rows) (inl e) = inl e
  moved-loader from to a (Loader r ∷ rows) (inr m) = inr (moved-loader from to a rows m)
  moved-loader from to a (Class r p ∷ rows) (inl e) =
      absurd (by_test (same_chunk r.place.chunk from) e)
    where
      by_test : (t : Bool) → Loader a
          ≡ cond t (Class (record r { place = record r.place { chunk = to } }) p) (Class r p) → ⊥
      by_test true e = absurd (cc)
      by_test false e = absurd (cc)
  moved-loader from to a (Class r p ∷ rows) (inr m) = inr (moved-loader from to a rows m)

  pub unique-moved : (from to : Chunk) (rows : List (Row P)) → AreUnique rows
      → AreUnique (moved from to rows)
  unique-moved from to rows h =
      record {
        names = λ a b m n x. h.names a b (moved-loader from to a rows m)
            (moved-loader from to b rows n) x;
      }

  bare-loader : (a : LoaderRow) (rows : List (Row P)) → Among (Loader a) (bare rows)
      → Among (Loader a) rows
  bare-loader a [] m = absurd m
  bare-loader a (Loader r ∷ rows) (inl e) = inl (ap own_row (loader-is a r (Loader a) refl e))
  bare-loader a (Loader r ∷ rows) (inr m) = inr (bare-loader a rows m)
  bare-loader a (Class r p ∷ rows) (inl e) = absurd (cc)
  bare-loader a (Class r p ∷ rows) (inr m) = inr (bare-loader a rows m)

  pub unique-bare : (rows : List (Row P)) → AreUnique rows → AreUnique (bare rows)
  unique-bare rows h =
      record { names = λ a b m n x. h.names a b (bare-loader a rows m) (bare-loader b rows n) x }
