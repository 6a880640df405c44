-- An index over rows: what a search in it finds, and the index of rows that change.
-- For `add_entry`, `class`, `class_like` and others.
use Rattle.std.proofs.Common.{◌≡◌, ℕ, zero, suc, ◌+◌, ◌<◌, ◌⊎◌, Bool, true, false, cond, eqb, List}
use Rattle.std.proofs.Common.{[], ◌∷◌, ◌++◌, map, length, take, drop, get_or, set, Option, Some}
use Rattle.std.proofs.Common.{None, refl, sym, ◌∙◌, ap, subst, arith, inl, inr, length-append}
use Rattle.std.proofs.Common.{add-one, length-take, length-set}
use Rattle.std.specs.Prelude.{◌&&◌}
use Rattle.std.specs.Option.{option_map, option_or, option_map_or}
use Rattle.std.specs.List.{AllByRecursion, find, slice_get, insert}
use Rattle.std.specs.Str.{bytes_eq}
use Rattle.std.specs.Ordering.{nat_cmp}
use Rattle.std.specs.Cmp.Lexicographic.{slice_cmp}
use Rattle.std.proofs.lemmas.Bool.{eqb-true, eq-eqb}
use Rattle.std.proofs.Math.Dec.{eqb-suc-suc}
use Rattle.std.proofs.lemmas.List.{map-append, take-map, drop-map, length-map, take-append-drop}
use Rattle.std.proofs.lemmas.List.{get_or-map, take_more}
use Rattle.std.proofs.lemmas.List.Folds.{find-append}
use Rattle.std.proofs.lemmas.Slice.Eq.{bytes_eq-Decides}
use Rattle.std.specs.declared.cmp.Ordering.TheVariants.{Less, Equal, Greater}
use Rattle.std.proofs.lemmas.Option.{slice_get-map}
use Rattle.cm_pool.specs.declared.chunk.Chunk.{Chunk}
use Rattle.cm_pool.specs.Chunks.{same_chunk}
use Rattle.cm_pool.specs.Lists.{Among}
use Rattle.cm_pool.proofs.{among-left, among-right, among-append, among-map, each-join}
use Rattle.cm_layout.specs.declared.row.Row.{Row}
use Rattle.cm_layout.specs.declared.row.Row.TheVariants.{Loader, Class}
use Rattle.cm_layout.specs.Rows.{number_of, moved_row}
use Rattle.cm_index.specs.declared.index.IndexEntry.{IndexEntry}
use Rattle.cm_index.specs.declared.slot.BookSlot.{BookSlot}
use Rattle.cm_index.specs.Living.{living, moved_slot}
use Rattle.cm_index.specs.Index.{class_of, owner_of, rank, name_in, is_named, key, tail_at, key_at}
use Rattle.cm_index.specs.Index.{keys_at, IsEntry, IsIndex, IsKeyAt, SplitsKeys, Rise, ReachesRow}
use Rattle.cm_index.specs.Index.{LivesAt}
use Rattle.cm_index.specs.Index.{leads_to_life, renewed, number_in, kept_in}
use Rattle.cm_index.proofs.Tests.{both_true}
use Rattle.cm_index.proofs.Tests.{ne-eqb}
use Rattle.cm_index.proofs.Living.{living-append, living-push, living-moved}
use Rattle.cm_index.specs.Index.{Below, Above}
use Rattle.cm_index.proofs.Sorted.{below-to, above-from, equal-itself, all-among, equal-is}
use Rattle.cm_index.proofs.Sorted.{all-take, all-drop, all-at, rise-insert, parted}

-- ---- lists

get-left : {X : Type 0} (xs ys : List X) (i : ℕ) (x : X) → slice_get xs i ≡ Some x
    → slice_get (xs ++ ys) i ≡ Some x
get-left [] ys i x h = absurd (cc)
get-left (y ∷ xs) ys zero x h = h
get-left (y ∷ xs) ys (suc i) x h = get-left xs ys i x h

get-last : {X : Type 0} (xs : List X) (x : X) → slice_get (xs ++ x ∷ []) (length xs) ≡ Some x
get-last [] x = refl
get-last (y ∷ xs) x = get-last xs x

pub find-true : {X : Type 0} (p : X → Bool) (xs : List X) (x : X) → find p xs ≡ Some x → p x ≡ true
find-true p [] x h = absurd (cc)
find-true p (y ∷ xs) x h = by_test (find-true p xs x) (p y) refl h
  where
    by_test : (find p xs ≡ Some x → p x ≡ true) → (t : Bool) → p y ≡ t
        → cond t (Some y) (find p xs) ≡ Some x → p x ≡ true
    by_test behind true e h = let is : y ≡ x = cc in ap p (sym is) ∙ e
    by_test behind false e h = behind h

-- f doesn't change what the test says
find-map : {X : Type 0} (f : X → X) (p : X → Bool) (xs : List X) → ((x : X) → p (f x) ≡ p x)
    → find p (map f xs) ≡ option_map f (find p xs)
find-map f p [] same = refl
find-map f p (x ∷ xs) same = rw (same x) (by_test (p x) (find-map f p xs same))
  where
    by_test : (t : Bool) → find p (map f xs) ≡ option_map f (find p xs)
        → cond t (Some (f x)) (find p (map f xs)) ≡ option_map f (cond t (Some x) (find p xs))
    by_test true behind = refl
    by_test false behind = behind

option-none : {X : Type 0} (o : Option X) → ((x : X) → ¬ (o ≡ Some x)) → o ≡ None
option-none None n = refl
option-none (Some x) n = absurd (n x refl)

or-some : {X : Type 0} (o p : Option X) (x : X) → o ≡ Some x → option_or o p ≡ Some x
or-some None p x h = absurd (cc)
or-some (Some y) p x h = h

or-from : {X : Type 0} (o p : Option X) (x : X) → option_or o p ≡ Some x → (o ≡ Some x)
    ⊎ ((o ≡ None) × (p ≡ Some x))
or-from None p x h = inr (refl, h)
or-from (Some y) p x h = inl h

-- ---- owners and names

module _ {P : Type 0} (name_of : P → List ℕ) where
  pub named-itself : (row : Row P)
      → is_named name_of (rank (owner_of row)) (name_in name_of row) row ≡ true
  named-itself row =
      let one = eq-eqb (rank (owner_of row)) (rank (owner_of row)) refl in
      let two = (bytes_eq-Decides (name_in name_of row) (name_in name_of row)).1 refl in
      rw (one, two) refl

  pub named-is : (o : ℕ) (x : List ℕ) (row : Row P) → is_named name_of o x row ≡ true
      → (rank (owner_of row) ≡ o) × (name_in name_of row ≡ x)
  named-is o x row h =
      let p = both_true (eqb (rank (owner_of row)) o) (bytes_eq (name_in name_of row) x) h in
      (eqb-true (rank (owner_of row)) o p.0, (bytes_eq-Decides (name_in name_of row) x).0 p.1)

-- ---- what a search finds

-- there is one entry of each key
same-key : {X : Type 0} (f : X → List ℕ) (xs : List X) (x : X) (i : ℕ) (d : X) → Rise (map f xs)
    → Among x xs → i < length xs → f x ≡ f (get_or xs i d) → x ≡ get_or xs i d
same-key f [] x i d h none lt e = absurd none
same-key f (y ∷ xs) x zero d h (inl is) lt e = is
same-key f (y ∷ xs) x zero d h (inr m) lt e =
    let less : slice_cmp nat_cmp (f y) (f x) ≡ Less =
    all-among (λ b. slice_cmp nat_cmp (f y) b ≡ Less) (map f xs) (f x) h.0 (among-map f x xs m) in
    let same : slice_cmp nat_cmp (f y) (f x) ≡ Equal =
    ap (slice_cmp nat_cmp (f y)) e ∙ equal-itself (f y) in
    absurd (cc)
same-key f (y ∷ xs) x (suc i) d h (inl is) lt e =
    let there : f (get_or xs i d) ≡ f y = sym e ∙ ap f is in
    let less : slice_cmp nat_cmp (f y) (f (get_or xs i d)) ≡ Less =
    all-places f y xs i d h.0 (omega arith) in
    let same : slice_cmp nat_cmp (f y) (f (get_or xs i d)) ≡ Equal =
    ap (slice_cmp nat_cmp (f y)) there ∙ equal-itself (f y) in
    absurd (cc)
  where
    all-places : {X : Type 0} (f : X → List ℕ) (y : X) (xs : List X) (i : ℕ) (d : X)
        → AllByRecursion (λ b. slice_cmp nat_cmp (f y) b ≡ Less) (map f xs) → i < length xs
        → slice_cmp nat_cmp (f y) (f (get_or xs i d)) ≡ Less
    all-places f y [] i d h lt = absurd (omega arith)
    all-places f y (x ∷ xs) zero d h lt = h.0
    all-places f y (x ∷ xs) (suc i) d h lt = all-places f y xs i d h.1 (omega arith)
same-key f (y ∷ xs) x (suc i) d h (inr m) lt e = same-key f xs x i d h.1 m (omega arith) e

module _ {P : Type 0} where
  pub leads-is : (slots : List (BookSlot (Row P))) (e : IndexEntry) (s : BookSlot (Row P))
      → slice_get slots e.at ≡ Some s → leads_to_life slots e ≡ s.live
  leads-is slots e s there =
      ap (λ (o : Option (BookSlot (Row P))). option_map_or (λ s. s.live) o false) there

  -- if an entry leads to a live row, it leads to a place
  pub leads-there : (slots : List (BookSlot (Row P))) (e : IndexEntry) → leads_to_life slots e
      ≡ true
      → (s : BookSlot (Row P)) × (slice_get slots e.at ≡ Some s)
  leads-there slots e h = by_slot (slice_get slots e.at) refl h
    where
      by_slot : (o : Option (BookSlot (Row P))) → slice_get slots e.at ≡ o
          → option_map_or (λ (s : BookSlot (Row P)). s.live) o false ≡ true
          → (s : BookSlot (Row P)) × (slice_get slots e.at ≡ Some s)
      by_slot None is h = absurd (cc)
      by_slot (Some s) is h = (s, is)

module _ {P : Type 0} (mark : ℕ → List ℕ → ℕ) (name_of : P → List ℕ) where
  pub record Found (slots : List (BookSlot (Row P))) (e : IndexEntry) (o : ℕ)
      (x : List ℕ) : Type 0 where
    pub slot : BookSlot (Row P)
    pub there : slice_get slots e.at ≡ Some slot
    pub fingerprint : e.fingerprint ≡ mark o x
    pub owner : rank (owner_of slot.item) ≡ o
    pub name : name_in name_of slot.item ≡ x
    pub lives : slot.live ≡ true → find (is_named name_of o x) (living slots) ≡ Some slot.item
    pub gone : slot.live ≡ false → find (is_named name_of o x) (living slots) ≡ None

  pub found-there : (slots : List (BookSlot (Row P))) (es : List IndexEntry) (i : ℕ)
      (d : IndexEntry)
      (o : ℕ) (x k : List ℕ) → IsIndex mark name_of slots es → IsKeyAt name_of slots es i k
      → k ≡ key mark o x → Found slots (get_or es i d) o x
  found-there slots es i d o x k h at is =
      let e = get_or es i d in
      let entry = all-at (IsEntry mark name_of slots) es i d h.each at.within in
      let s = entry.slot in
      let keys : key_at name_of slots e ≡ key mark o x =
      equal-is (key_at name_of slots e) (key mark o x)
      (ap (λ (y : List ℕ). slice_cmp nat_cmp (key_at name_of slots e) y) (sym is)
      ∙ at.key_is d) in
      let whole : e.fingerprint ∷ rank (owner_of s.item) ∷ name_in name_of s.item
      ≡ mark o x ∷ o ∷ x = ap
      (λ (r : Option (BookSlot (Row P))). e.fingerprint ∷ tail_at name_of r) (sym entry.there)
      ∙ keys in
      let fingerprint : e.fingerprint ≡ mark o x = cc in
      let owner : rank (owner_of s.item) ≡ o = cc in
      let name : name_in name_of s.item ≡ x = cc in
      record {
        slot = s;
        there = entry.there;
        fingerprint = fingerprint;
        owner = owner;
        name = name;
        lives = λ live. ap (λ (t : ℕ). find (is_named name_of t x) (living slots)) (sym owner)
            ∙ ap (λ (y : List ℕ). find (is_named name_of (rank (owner_of s.item)) y) (living slots))
            (sym name) ∙ entry.first live;
        gone = λ dead. option-none (find (is_named name_of o x) (living slots)) (λ row first.
            let l = h.complete o x row first in
            let one : l.entry ≡ e =
            same-key (key_at name_of slots) es l.entry i d h.rises l.among at.within
            (l.key_is ∙ sym keys) in
            let lives : leads_to_life slots e ≡ true =
            ap (leads_to_life slots) (sym one) ∙ l.lives in
            let dies : leads_to_life slots e ≡ false = leads-is slots e s entry.there ∙ dead in
            absurd (cc));
      }

  pub absent-at : (slots : List (BookSlot (Row P))) (es : List IndexEntry) (i o : ℕ) (x : List ℕ)
      → IsIndex mark name_of slots es → SplitsKeys (keys_at name_of slots es) i (key mark o x)
      → find (is_named name_of o x) (living slots) ≡ None
  absent-at slots es i o x h p =
      option-none (find (is_named name_of o x) (living slots)) (λ row is.
      let l = h.complete o x row is in
      parted (keys_at name_of slots es) i (key mark o x) p
      (subst (λ (k : List ℕ). Among k (keys_at name_of slots es)) l.key_is
      (among-map (key_at name_of slots) l.entry es l.among)))

  -- ---- one row more

  entry-left : (slots more : List (BookSlot (Row P))) (e : IndexEntry)
      → IsEntry mark name_of slots e
      → IsEntry mark name_of (slots ++ more) e
  entry-left slots more e h =
      let test = is_named name_of (rank (owner_of h.slot.item)) (name_in name_of h.slot.item) in
      record {
        slot = h.slot;
        there = get-left slots more e.at h.slot h.there;
        fingerprint = h.fingerprint;
        first = λ live. ap (find test) (living-append slots more)
            ∙ find-append test (living slots) (living more)
            ∙ or-some (find test (living slots)) (find test (living more)) h.slot.item
            (h.first live);
      }

  each-left : (slots more : List (BookSlot (Row P))) (es : List IndexEntry)
      → AllByRecursion (IsEntry mark name_of slots) es
      → AllByRecursion (IsEntry mark name_of (slots ++ more)) es
  each-left slots more [] h = tt
  each-left slots more (e ∷ es) h = (entry-left slots more e h.0, each-left slots more es h.1)

  keys-left : (slots more : List (BookSlot (Row P))) (es : List IndexEntry)
      → AllByRecursion (IsEntry mark name_of slots) es
      → keys_at name_of (slots ++ more) es ≡ keys_at name_of slots es
  keys-left slots more [] h = refl
  keys-left slots more (e ∷ es) h =
      let same : slice_get (slots ++ more) e.at ≡ slice_get slots e.at =
      get-left slots more e.at h.0.slot h.0.there ∙ sym h.0.there in
      ap (λ (r : Option (BookSlot (Row P))). (e.fingerprint ∷ tail_at name_of r)
      ∷ keys_at name_of (slots ++ more) es) same
      ∙ ap (λ (ks : List (List ℕ)). key_at name_of slots e ∷ ks) (keys-left slots more es h.1)

  -- what leads to a live row still does so, among more entries
  leads-left : (slots more : List (BookSlot (Row P))) (es fs : List IndexEntry) (k : List ℕ)
      → (l : ReachesRow name_of slots es k) → Among l.entry fs
      → ReachesRow name_of (slots ++ more) fs k
  leads-left slots more es fs k l among =
      let t = leads-there slots l.entry l.lives in
      let there : slice_get (slots ++ more) l.entry.at ≡ Some t.0 =
      get-left slots more l.entry.at t.0 t.1 in
      record {
        entry = l.entry;
        among = among;
        key_is = ap (λ (r : Option (BookSlot (Row P))). l.entry.fingerprint ∷ tail_at name_of r)
            (there ∙ sym t.1) ∙ l.key_is;
        lives = leads-is (slots ++ more) l.entry t.0 there
            ∙ sym (leads-is slots l.entry t.0 t.1) ∙ l.lives;
      }

  -- the first row, once a row is added, was the first before, or is the added one
  first-more : (slots : List (BookSlot (Row P))) (s : BookSlot (Row P)) (r : Row P) (o : ℕ)
      (x : List ℕ)
      → s.live ≡ true → find (is_named name_of o x) (living (slots ++ s ∷ [])) ≡ Some r
      → (find (is_named name_of o x) (living slots) ≡ Some r)
      ⊎ ((rank (owner_of s.item) ≡ o) × (name_in name_of s.item ≡ x))
  first-more slots s r o x live h =
      elim (or-from (find (is_named name_of o x) (living slots))
      (find (is_named name_of o x) (s.item ∷ [])) r
      (sym (ap (find (is_named name_of o x)) (living-push slots s live)
      ∙ find-append (is_named name_of o x) (living slots) (s.item ∷ [])) ∙ h)) [
        | inl before ↦ inl before
        | inr new ↦ inr (named-is name_of o x s.item
            (by_test (is_named name_of o x s.item) refl new.1))
      ]
    where
      by_test : (t : Bool) → is_named name_of o x s.item ≡ t → cond t (Some s.item) None ≡ Some r
          → is_named name_of o x s.item ≡ true
      by_test true e h = e
      by_test false e h = absurd (cc)

  -- a row of an owner and a name that a live row already has
  index-known : (slots : List (BookSlot (Row P))) (s : BookSlot (Row P)) (before : Row P)
      (es : List IndexEntry)
      → s.live ≡ true → IsIndex mark name_of slots es
      → find (is_named name_of (rank (owner_of s.item)) (name_in name_of s.item)) (living slots)
      ≡ Some before
      → IsIndex mark name_of (slots ++ s ∷ []) es
  index-known slots s before es live h is =
      let keys = keys-left slots (s ∷ []) es h.each in
      record {
        each = each-left slots (s ∷ []) es h.each;
        rises = rw (keys) h.rises;
        complete = λ o x r first. elim (first-more slots s r o x live first) [
          | inl old ↦ let l = h.complete o x r old in
              leads-left slots (s ∷ []) es es (key mark o x) l l.among
          | inr own ↦
              let l = h.complete o x before
              (ap (λ (t : ℕ). find (is_named name_of t x) (living slots)) (sym own.0)
              ∙ ap (λ (y : List ℕ). find (is_named name_of (rank (owner_of s.item)) y)
              (living slots)) (sym own.1) ∙ is) in
              leads-left slots (s ∷ []) es es (key mark o x) l l.among
        ];
        few = omega (arith, h.few, length-append slots (s ∷ []));
      }

  -- the entry of a row that is appended, if none of the live rows before it is first
  record IsNew (slots : List (BookSlot (Row P))) (s : BookSlot (Row P)) (new : IndexEntry) : Type 0
    where
      own : key_at name_of (slots ++ s ∷ []) new
          ≡ key mark (rank (owner_of s.item)) (name_in name_of s.item)
      entry : IsEntry mark name_of (slots ++ s ∷ []) new
      lives : leads_to_life (slots ++ s ∷ []) new ≡ true

  is_new : (slots : List (BookSlot (Row P))) (s : BookSlot (Row P)) (f n : ℕ) → s.live ≡ true
      → n ≡ length slots → f ≡ mark (rank (owner_of s.item)) (name_in name_of s.item)
      → find (is_named name_of (rank (owner_of s.item)) (name_in name_of s.item)) (living slots)
      ≡ None
      → IsNew slots s (record { fingerprint = f; at = n })
  is_new slots s f n live last fingerprint none =
      let o = rank (owner_of s.item) in
      let x = name_in name_of s.item in
      let new : IndexEntry = record { fingerprint = f; at = n } in
      let there : slice_get (slots ++ s ∷ []) n ≡ Some s =
      ap (slice_get (slots ++ s ∷ [])) last ∙ get-last slots s in
      record {
        own = ap (λ (r : Option (BookSlot (Row P))). f ∷ tail_at name_of r) there
            ∙ ap (λ (g : ℕ). g ∷ o ∷ x) fingerprint;
        entry = record {
          slot = s;
          there = there;
          fingerprint = fingerprint;
          first = λ _. ap (find (is_named name_of o x)) (living-push slots s live)
              ∙ find-append (is_named name_of o x) (living slots) (s.item ∷ [])
              ∙ ap (λ (r : Option (Row P)). option_or r (find (is_named name_of o x) (s.item ∷ [])))
              none ∙ ap (λ (t : Bool). cond t (Some s.item) None) (named-itself name_of s.item);
        };
        lives = leads-is (slots ++ s ∷ []) new s there ∙ live;
      }

  -- a row of an owner and a name that are new
  index-new : (slots : List (BookSlot (Row P))) (s : BookSlot (Row P)) (es : List IndexEntry)
      (i f n : ℕ)
      → s.live ≡ true → IsIndex mark name_of slots es → n ≡ length slots
      → f ≡ mark (rank (owner_of s.item)) (name_in name_of s.item)
      → SplitsKeys (keys_at name_of slots es) i
      (key mark (rank (owner_of s.item)) (name_in name_of s.item))
      → IsIndex mark name_of (slots ++ s ∷ []) (insert es i (record { fingerprint = f; at = n }))
  index-new slots s es i f n live h last fingerprint p =
      let o = rank (owner_of s.item) in
      let x = name_in name_of s.item in
      let k = key mark o x in
      let new : IndexEntry = record { fingerprint = f; at = n } in
      let more = slots ++ s ∷ [] in
      let keys = keys-left slots (s ∷ []) es h.each in
      let is = is_new slots s f n live last fingerprint (absent-at slots es i o x h p) in
      let ks = keys_at name_of slots es in
      let split : keys_at name_of more (insert es i new) ≡ take i ks ++ k ∷ drop i ks =
      map-append (key_at name_of more) (take i es) (new ∷ drop i es)
      ∙ ap (λ (l : List (List ℕ)). l ++ key_at name_of more new
      ∷ map (key_at name_of more) (drop i es)) (sym (take-map (key_at name_of more) i es)
      ∙ ap (take i) keys)
      ∙ ap (λ (a : List ℕ). take i ks ++ a ∷ map (key_at name_of more) (drop i es)) is.own
      ∙ ap (λ (l : List (List ℕ)). take i ks ++ k ∷ l) (sym (drop-map (key_at name_of more) i es)
      ∙ ap (drop i) keys) in
      let each = each-left slots (s ∷ []) es h.each in
      record {
        each = each-join (IsEntry mark name_of more) (take i es) (new ∷ drop i es)
            (all-take (IsEntry mark name_of more) i es each)
            (is.entry, all-drop (IsEntry mark name_of more) i es each);
        rises = rw (split) (rise-insert ks i k h.rises p);
        complete = λ a y r first. elim (first-more slots s r a y live first) [
          | inl old ↦
              let l = h.complete a y r old in
              leads-left slots (s ∷ []) es (insert es i new) (key mark a y) l
              (put l.entry (take i es) (drop i es) new
              (subst (Among l.entry) (sym (take-append-drop i es)) l.among))
          | inr same ↦ record {
            entry = new;
            among = among-right new (take i es) (new ∷ drop i es) (inl refl);
            key_is = is.own ∙ ap (λ (t : ℕ). key mark t x) same.0 ∙ ap (key mark a) same.1;
            lives = is.lives;
          }
        ];
        few = omega (
          arith,
          h.few,
          length-append slots (s ∷ []),
          length-append (take i es) (new ∷ drop i es),
          ap (λ (l : List IndexEntry). length l) (take-append-drop i es),
          length-append (take i es) (drop i es),
        );
      }
    where
      put : {X : Type 0} (a : X) (xs ys : List X) (b : X) → Among a (xs ++ ys)
          → Among a (xs ++ b ∷ ys)
      put a xs ys b m =
          elim (among-append a xs ys m) [
            | inl left ↦ among-left a xs (b ∷ ys) left
            | inr right ↦ among-right a xs (b ∷ ys) (inr right)
          ]

  -- an item of a list replaced by another
  all-put : {X : Type 0} (Q : X → Type 0) (xs : List X) (i : ℕ) (y : X) → AllByRecursion Q xs → Q y
      → AllByRecursion Q (set xs i y)
  all-put Q [] i y h q = h
  all-put Q (x ∷ xs) zero y h q = (q, h.1)
  all-put Q (x ∷ xs) (suc i) y h q = (h.0, all-put Q xs i y h.1 q)

  map-put : {X : Type 0} (f : X → List ℕ) (xs : List X) (i : ℕ) (d y : X) → f y ≡ f (get_or xs i d)
      → map f (set xs i y) ≡ map f xs
  map-put f [] i d y e = refl
  map-put f (x ∷ xs) zero d y e = ap (λ (k : List ℕ). k ∷ map f xs) e
  map-put f (x ∷ xs) (suc i) d y e = ap (λ (ks : List (List ℕ)). f x ∷ ks) (map-put f xs i d y e)

  among-put : {X : Type 0} (xs : List X) (i : ℕ) (d y z : X) → Among z xs → (z ≡ get_or xs i d)
      ⊎ Among z (set xs i y)
  among-put [] i d y z m = absurd m
  among-put (x ∷ xs) zero d y z (inl e) = inl e
  among-put (x ∷ xs) zero d y z (inr m) = inr (inr m)
  among-put (x ∷ xs) (suc i) d y z (inl e) = inr (inl e)
  among-put (x ∷ xs) (suc i) d y z (inr m) =
      elim (among-put xs i d y z m) [ inl e ↦ inl e | inr n ↦ inr (inr n) ]

  among-new : {X : Type 0} (xs : List X) (i : ℕ) (y : X) → i < length xs → Among y (set xs i y)
  among-new [] i y lt = absurd (omega arith)
  among-new (x ∷ xs) zero y lt = inl refl
  among-new (x ∷ xs) (suc i) y lt = inr (among-new xs i y (omega arith))

  -- a row of an owner and a name that a dead row has
  index-again : (slots : List (BookSlot (Row P))) (s : BookSlot (Row P)) (es : List IndexEntry)
      (i f n : ℕ)
      (d : IndexEntry)
      → s.live ≡ true → IsIndex mark name_of slots es → n ≡ length slots → i < length es
      → f ≡ mark (rank (owner_of s.item)) (name_in name_of s.item)
      → (found : Found slots (get_or es i d) (rank (owner_of s.item)) (name_in name_of s.item))
      → found.slot.live ≡ false
      → IsIndex mark name_of (slots ++ s ∷ []) (set es i (record { fingerprint = f; at = n }))
  index-again slots s es i f n d live h last within fingerprint found dead =
      let o = rank (owner_of s.item) in
      let x = name_in name_of s.item in
      let e = get_or es i d in
      let new : IndexEntry = record { fingerprint = f; at = n } in
      let more = slots ++ s ∷ [] in
      let is = is_new slots s f n live last fingerprint (found.gone dead) in
      let there : slice_get more e.at ≡ Some found.slot =
      get-left slots (s ∷ []) e.at found.slot found.there in
      let was : key_at name_of more e ≡ key mark o x =
      ap (λ (r : Option (BookSlot (Row P))). e.fingerprint ∷ tail_at name_of r) there
      ∙ ap (λ (g : ℕ). g ∷ rank (owner_of found.slot.item) ∷ name_in name_of found.slot.item)
      found.fingerprint
      ∙ ap (λ (t : ℕ). mark o x ∷ t ∷ name_in name_of found.slot.item) found.owner
      ∙ ap (λ (y : List ℕ). mark o x ∷ o ∷ y) found.name in
      let keys : keys_at name_of more (set es i new) ≡ keys_at name_of slots es =
      map-put (key_at name_of more) es i d new (is.own ∙ sym was)
      ∙ keys-left slots (s ∷ []) es h.each in
      record {
        each = all-put (IsEntry mark name_of more) es i new
            (each-left slots (s ∷ []) es h.each) is.entry;
        rises = rw (keys) h.rises;
        complete = λ a y r first. elim (first-more slots s r a y live first) [
          | inl old ↦
              let l = h.complete a y r old in
              elim (among-put es i d new l.entry l.among) [
                | inl it ↦ absurd (
                    let lives : leads_to_life slots e ≡ true =
                    ap (leads_to_life slots) (sym it) ∙ l.lives in
                    let dies : leads_to_life slots e ≡ false =
                    leads-is slots e found.slot found.there ∙ dead in
                    cc)
                | inr stays ↦ leads-left slots (s ∷ []) es (set es i new) (key mark a y) l stays
              ]
          | inr same ↦ record {
            entry = new;
            among = among-new es i new within;
            key_is = is.own ∙ ap (λ (t : ℕ). key mark t x) same.0 ∙ ap (key mark a) same.1;
            lives = is.lives;
          }
        ];
        few = omega (arith, h.few, length-append slots (s ∷ []), length-set es i new);
      }

  -- ---- no row, and rows that move

  pub index-none : IsIndex mark name_of [] []
  index-none =
      record { each = tt; rises = tt; complete = λ o x row is. absurd (cc); few = omega arith }

  moved-named : (from to : Chunk) (o : ℕ) (x : List ℕ) (row : Row P)
      → is_named name_of o x (moved_row from to row) ≡ is_named name_of o x row
  moved-named from to o x (Loader r) = refl
  moved-named from to o x (Class r p) = by_test (same_chunk r.place.chunk from)
    where
      by_test : (t : Bool)
          → is_named name_of o x (cond t
          (Class (record r { place = record r.place { chunk = to } }) p) (Class r p))
          ≡ is_named name_of o x (Class r p)
      by_test true = refl
      by_test false = refl

  moved-tail : (from to : Chunk) (row : Row P)
      → rank (owner_of (moved_row from to row)) ∷ name_in name_of (moved_row from to row)
      ≡ rank (owner_of row) ∷ name_in name_of row
  moved-tail from to (Loader r) = refl
  moved-tail from to (Class r p) = by_test (same_chunk r.place.chunk from)
    where
      by_test : (t : Bool)
          → rank (owner_of (cond t (Class (record r { place = record r.place { chunk = to } }) p)
          (Class r p))) ∷ name_in name_of
          (cond t (Class (record r { place = record r.place { chunk = to } }) p) (Class r p))
          ≡ rank (owner_of (Class r p)) ∷ name_in name_of (Class r p)
      by_test true = refl
      by_test false = refl

  slot-tail : (from to : Chunk) (s : BookSlot (Row P))
      → rank (owner_of (moved_slot from to s).item) ∷ name_in name_of (moved_slot from to s).item
      ≡ rank (owner_of s.item) ∷ name_in name_of s.item
  slot-tail from to s = by_test s.live
    where
      by_test : (t : Bool)
          → rank (owner_of (cond t (moved_row from to s.item) s.item))
          ∷ name_in name_of (cond t (moved_row from to s.item) s.item)
          ≡ rank (owner_of s.item) ∷ name_in name_of s.item
      by_test true = moved-tail from to s.item
      by_test false = refl

  entry-moved : (from to : Chunk) (slots : List (BookSlot (Row P))) (e : IndexEntry)
      → IsEntry mark name_of slots e → IsEntry mark name_of (map (moved_slot from to) slots) e
  entry-moved from to slots e h =
      let row = h.slot.item in
      let to_row = (moved_slot from to h.slot).item in
      let all = map (moved_slot from to) slots in
      let tail : rank (owner_of to_row) ∷ name_in name_of to_row
      ≡ rank (owner_of row) ∷ name_in name_of row = slot-tail from to h.slot in
      let owner : rank (owner_of to_row) ≡ rank (owner_of row) = cc in
      let name : name_in name_of to_row ≡ name_in name_of row = cc in
      let test = is_named name_of (rank (owner_of row)) (name_in name_of row) in
      record {
        slot = moved_slot from to h.slot;
        there = slice_get-map (moved_slot from to) slots e.at
            ∙ ap (option_map (moved_slot from to)) h.there;
        fingerprint = h.fingerprint ∙ ap (λ (t : ℕ). mark t (name_in name_of row)) (sym owner)
            ∙ ap (mark (rank (owner_of to_row))) (sym name);
        first = λ live.
            ap (λ (t : ℕ). find (is_named name_of t (name_in name_of to_row)) (living all)) owner
            ∙ ap (λ (y : List ℕ). find (is_named name_of (rank (owner_of row)) y) (living all)) name
            ∙ ap (find test) (living-moved from to slots)
            ∙ find-map (moved_row from to) test (living slots)
            (moved-named from to (rank (owner_of row)) (name_in name_of row))
            ∙ ap (option_map (moved_row from to)) (h.first live)
            ∙ ap (λ (t : Bool). Some (cond t (moved_row from to row) row)) (sym live);
      }

  each-moved : (from to : Chunk) (slots : List (BookSlot (Row P))) (es : List IndexEntry)
      → AllByRecursion (IsEntry mark name_of slots) es
      → AllByRecursion (IsEntry mark name_of (map (moved_slot from to) slots)) es
  each-moved from to slots [] h = tt
  each-moved from to slots (e ∷ es) h =
      (entry-moved from to slots e h.0, each-moved from to slots es h.1)

  key-moved : (from to : Chunk) (slots : List (BookSlot (Row P))) (e : IndexEntry)
      (s : BookSlot (Row P))
      → slice_get slots e.at ≡ Some s
      → key_at name_of (map (moved_slot from to) slots) e ≡ key_at name_of slots e
  key-moved from to slots e s is =
      let there : slice_get (map (moved_slot from to) slots) e.at ≡ Some (moved_slot from to s) =
      slice_get-map (moved_slot from to) slots e.at ∙ ap (option_map (moved_slot from to)) is in
      ap (λ (r : Option (BookSlot (Row P))). e.fingerprint ∷ tail_at name_of r) there
      ∙ ap (λ (t : List ℕ). e.fingerprint ∷ t) (slot-tail from to s)
      ∙ ap (λ (r : Option (BookSlot (Row P))). e.fingerprint ∷ tail_at name_of r) (sym is)

  keys-moved : (from to : Chunk) (slots : List (BookSlot (Row P))) (es : List IndexEntry)
      → AllByRecursion (IsEntry mark name_of slots) es
      → keys_at name_of (map (moved_slot from to) slots) es ≡ keys_at name_of slots es
  keys-moved from to slots [] h = refl
  keys-moved from to slots (e ∷ es) h =
      ap (λ (k : List ℕ). k ∷ keys_at name_of (map (moved_slot from to) slots) es)
      (key-moved from to slots e h.0.slot h.0.there)
      ∙ ap (λ (ks : List (List ℕ)). key_at name_of slots e ∷ ks) (keys-moved from to slots es h.1)

  map-some : (from to : Chunk) (o : Option (Row P)) (r : Row P)
      → option_map (moved_row from to) o ≡ Some r → (row : Row P) × (o ≡ Some row)
  map-some from to None r h = absurd (cc)
  map-some from to (Some row) r h = (row, refl)

  pub index-moved : (from to : Chunk) (slots : List (BookSlot (Row P))) (es : List IndexEntry)
      → IsIndex mark name_of slots es → IsIndex mark name_of (map (moved_slot from to) slots) es
  index-moved from to slots es h =
      let keys = keys-moved from to slots es h.each in
      let all = map (moved_slot from to) slots in
      record {
        each = each-moved from to slots es h.each;
        rises = rw (keys) h.rises;
        complete = λ o x r is.
            let was = map-some from to (find (is_named name_of o x) (living slots)) r
            (sym (ap (find (is_named name_of o x)) (living-moved from to slots)
            ∙ find-map (moved_row from to) (is_named name_of o x) (living slots)
            (moved-named from to o x)) ∙ is) in
            let l = h.complete o x was.0 was.1 in
            let t = leads-there slots l.entry l.lives in
            let there : slice_get all l.entry.at ≡ Some (moved_slot from to t.0) =
            slice_get-map (moved_slot from to) slots l.entry.at
            ∙ ap (option_map (moved_slot from to)) t.1 in
            record {
              entry = l.entry;
              among = l.among;
              key_is = key-moved from to slots l.entry t.0 t.1 ∙ l.key_is;
              lives = leads-is all l.entry (moved_slot from to t.0) there
                  ∙ sym (leads-is slots l.entry t.0 t.1) ∙ l.lives;
            };
        few = omega (arith, h.few, length-map slots (moved_slot {P = P} from to));
      }

-- ---- an entry in the place of one that leads to a dead row

get-there : {X : Type 0} (xs : List X) (i : ℕ) (x : X) → i < length xs → x ≡ get_or xs i x
    → slice_get xs i ≡ Some x
get-there [] i x lt is = absurd (omega arith)
get-there (y ∷ xs) zero x lt is = ap Some (sym is)
get-there (y ∷ xs) (suc i) x lt is = get-there xs i x (omega arith) is

module _ {P : Type 0} (slots : List (BookSlot (Row P))) (es : List IndexEntry) (i : ℕ)
    (e before : IndexEntry) (s : BookSlot (Row P)) where
  leads-at : before ≡ get_or es i e → before.at < length slots → s ≡ get_or slots before.at s
      → leads_to_life slots (get_or es i e) ≡ s.live
  leads-at is lt there =
      ap (leads_to_life slots) (sym is)
      ∙ leads-is slots before s (get-there slots before.at s lt there)

  pub renewed-dead : before ≡ get_or es i e → before.at < length slots
      → s ≡ get_or slots before.at s
      → s.live ≡ false → set es i e ≡ renewed slots es i e
  renewed-dead is lt there dead =
      sym (ap (λ (t : Bool). cond t es (set es i e)) (leads-at is lt there ∙ dead))

  pub renewed-living : before ≡ get_or es i e → before.at < length slots
      → s ≡ get_or slots before.at s
      → s.live ≡ true → es ≡ renewed slots es i e
  renewed-living is lt there lives =
      sym (ap (λ (t : Bool). cond t es (set es i e)) (leads-at is lt there ∙ lives))

-- ---- the steps of a search

module _ {P : Type 0} (name_of : P → List ℕ) where
  pub lower : (slots : List (BookSlot (Row P))) (es : List IndexEntry) (m : ℕ) (k : List ℕ)
      (d : IndexEntry)
      → Rise (keys_at name_of slots es) → m < length es
      → slice_cmp nat_cmp (key_at name_of slots (get_or es m d)) k ≡ Less
      → AllByRecursion (Below k) (take (m + 1) (keys_at name_of slots es))
  lower slots es m k d h lt less =
      let ks = keys_at name_of slots es in
      let there : get_or ks m [] ≡ key_at name_of slots (get_or es m d) =
      get_or-map (key_at name_of slots) es m d [] lt in
      subst (λ (n : ℕ). AllByRecursion (Below k) (take n ks)) (sym (add-one m))
      (below-to ks m k [] h (omega (arith, length-map es (key_at name_of slots)))
      (ap (λ (a : List ℕ). slice_cmp nat_cmp a k) there ∙ less))

  pub upper : (slots : List (BookSlot (Row P))) (es : List IndexEntry) (m : ℕ) (k : List ℕ)
      (d : IndexEntry)
      → Rise (keys_at name_of slots es) → m < length es
      → slice_cmp nat_cmp (key_at name_of slots (get_or es m d)) k ≡ Greater
      → AllByRecursion (Above k) (drop m (keys_at name_of slots es))
  upper slots es m k d h lt more =
      let ks = keys_at name_of slots es in
      let there : get_or ks m [] ≡ key_at name_of slots (get_or es m d) =
      get_or-map (key_at name_of slots) es m d [] lt in
      above-from ks m k [] h (omega (arith, length-map es (key_at name_of slots)))
      (ap (λ (a : List ℕ). slice_cmp nat_cmp a k) there ∙ more)

-- ---- one row further

module _ {P : Type 0} (mark : ℕ → List ℕ → ℕ) (name_of : P → List ℕ) where
  pub further-new : (slots : List (BookSlot (Row P))) (at : ℕ) (s : BookSlot (Row P))
      (es : List IndexEntry)
      (i f : ℕ) (k : List ℕ) → at < length slots → s ≡ get_or slots at s → LivesAt slots at
      → IsIndex mark name_of (take at slots) es
      → f ∷ drop 1 k ≡ key mark (rank (owner_of s.item)) (name_in name_of s.item)
      → k ≡ key mark (rank (owner_of s.item)) (name_in name_of s.item)
      → SplitsKeys (keys_at name_of (take at slots) es) i k
      → IsIndex mark name_of (take (at + 1) slots)
      (insert es i (record { fingerprint = f; at = at }))
  further-new slots at s es i f k lt is live h fingerprint key_is p =
      let first : f ≡ mark (rank (owner_of s.item)) (name_in name_of s.item) = cc in
      let more : take at slots ++ s ∷ [] ≡ take (at + 1) slots =
      ap (λ (r : BookSlot (Row P)). take at slots ++ r ∷ []) is ∙ sym (take_more slots at s lt) in
      let lives : s.live ≡ true = ap (λ (r : BookSlot (Row P)). r.live) is ∙ live.is s in
      subst (λ (l : List (BookSlot (Row P))). IsIndex mark name_of l
      (insert es i (record { fingerprint = f; at = at }))) more
      (index-new mark name_of (take at slots) s es i f at lives h
      (omega (arith, length-take at slots)) first
      (subst (SplitsKeys (keys_at name_of (take at slots) es) i) key_is p))

  -- an entry that is found leads to one of the rows before
  pub found-within : (slots : List (BookSlot (Row P))) (at : ℕ) (e : IndexEntry) (o : ℕ)
      (x : List ℕ)
      → Found mark name_of (take at slots) e o x → (s : BookSlot (Row P))
      → slice_get (take at slots) e.at ≡ Some s → slice_get slots e.at ≡ Some s
  found-within slots at e o x found s there =
      ap (λ (l : List (BookSlot (Row P))). slice_get l e.at) (sym (take-append-drop at slots))
      ∙ get-left (take at slots) (drop at slots) e.at s there

  pub further-known : (slots : List (BookSlot (Row P))) (at : ℕ) (s : BookSlot (Row P))
      (es : List IndexEntry) (i f : ℕ) (k : List ℕ) → at < length slots → s ≡ get_or slots at s
      → LivesAt slots at
      → IsIndex mark name_of (take at slots) es
      → f ∷ drop 1 k ≡ key mark (rank (owner_of s.item)) (name_in name_of s.item)
      → k ≡ key mark (rank (owner_of s.item)) (name_in name_of s.item)
      → IsKeyAt name_of (take at slots) es i k
      → IsIndex mark name_of (take (at + 1) slots)
      (renewed slots es i (record { fingerprint = f; at = at }))
  further-known slots at s es i f k lt is live h fingerprint key_is there =
      let d : IndexEntry = record { fingerprint = 0; at = 0 } in
      let new : IndexEntry = record { fingerprint = f; at = at } in
      let o = rank (owner_of s.item) in
      let x = name_in name_of s.item in
      let first : f ≡ mark o x = cc in
      let found = found-there mark name_of (take at slots) es i new o x k h there key_is in
      let lives : s.live ≡ true = ap (λ (r : BookSlot (Row P)). r.live) is ∙ live.is s in
      let more : take at slots ++ s ∷ [] ≡ take (at + 1) slots =
      ap (λ (r : BookSlot (Row P)). take at slots ++ r ∷ []) is ∙ sym (take_more slots at s lt) in
      let leads : leads_to_life slots (get_or es i new) ≡ found.slot.live =
      ap (λ (r : Option (BookSlot (Row P))). option_map_or (λ s. s.live) r false)
      (found-within slots at (get_or es i new) o x found found.slot found.there) in
      subst (λ (l : List (BookSlot (Row P))). IsIndex mark name_of l (renewed slots es i new)) more
      (subst (λ (t : Bool). IsIndex mark name_of (take at slots ++ s ∷ [])
      (cond t es (set es i new))) (sym leads)
      (by_life found.slot.live found refl lives first))
    where
      by_life : (t : Bool) → (found : Found mark name_of (take at slots)
          (get_or es i (record { fingerprint = f; at = at })) (rank (owner_of s.item))
          (name_in name_of s.item)) → found.slot.live ≡ t → s.live ≡ true
          → f ≡ mark (rank (owner_of s.item)) (name_in name_of s.item)
          → IsIndex mark name_of (take at slots ++ s ∷ [])
          (cond t es (set es i (record { fingerprint = f; at = at })))
      by_life true found e lives first =
          index-known mark name_of (take at slots) s found.slot.item es lives h (found.lives e)
      by_life false found e lives first =
          index-again mark name_of (take at slots) s es i f at (record { fingerprint = f; at = at })
          lives h (omega (arith, length-take at slots)) there.within first found e

-- ---- loaders and classes by name

pub number-first : {P : Type 0} (name_of : P → List ℕ) (x : List ℕ) (rows : List (Row P))
    → number_of x rows ≡ number_in (find (is_named name_of 0 x) rows)
number-first name_of x [] = refl
number-first name_of x (Loader r ∷ rows) = by_test (bytes_eq r.name x) (number-first name_of x rows)
  where
    by_test : (t : Bool) → number_of x rows ≡ number_in (find (is_named name_of 0 x) rows)
        → cond t (Some r.number) (number_of x rows)
        ≡ number_in (cond t (Some (Loader r)) (find (is_named name_of 0 x) rows))
    by_test true behind = refl
    by_test false behind = behind
number-first name_of x (Class r p ∷ rows) =
    rw (ne-eqb (suc r.loader) 0 (λ e. absurd (omega (arith, e)))) (number-first name_of x rows)

pub class-first : {P : Type 0} (name_of : P → List ℕ) (u : ℕ) (x : List ℕ) (rows : List (Row P))
    → class_of name_of u x rows ≡ kept_in (find (is_named name_of (suc u) x) rows)
class-first name_of u x [] = refl
class-first name_of u x (Loader r ∷ rows) =
    rw (ne-eqb 0 (suc u) (λ e. absurd (omega (arith, e)))) (class-first name_of u x rows)
class-first name_of u x (Class r p ∷ rows) =
    rw (eqb-suc-suc r.loader u)
    (by_test (eqb r.loader u && bytes_eq (name_of p) x) (class-first name_of u x rows))
  where
    by_test : (t : Bool) → class_of name_of u x rows
        ≡ kept_in (find (is_named name_of (suc u) x) rows)
        → cond t (Some p) (class_of name_of u x rows)
        ≡ kept_in (cond t (Some (Class r p)) (find (is_named name_of (suc u) x) rows))
    by_test true behind = refl
    by_test false behind = behind
