-- The index of places that are swept.
-- For `IndexBlock::sweep`, `block_of`, `move_up` and others.
use Rattle.std.proofs.Common.{◌≡◌, ℕ, zero, suc, ◌+◌, ◌<◌, ◌≤◌, ◌⊎◌, Bool, true, false, cond, List}
use Rattle.std.proofs.Common.{[], ◌∷◌, ◌++◌, map, length, take, drop, get_or, set, Option, Some}
use Rattle.std.proofs.Common.{refl, sym, ◌∙◌, ap, subst, arith, inl, inr, add-one}
use Rattle.std.specs.Prelude.{filter}
use Rattle.std.specs.List.{AllByRecursion, find, slice_get}
use Rattle.std.specs.Ordering.{nat_cmp}
use Rattle.std.specs.Cmp.Lexicographic.{slice_cmp}
use Rattle.std.proofs.lemmas.List.{length-map, map-append}
use Rattle.std.proofs.lemmas.List.Elements.{filter-append}
use Rattle.cm_index.specs.Blocks.{joined}
use Rattle.std.proofs.lemmas.Option.{slice_get_within}
use Rattle.std.specs.declared.cmp.Ordering.TheVariants.{Less, Equal}
use Rattle.cm_pool.specs.Lists.{Among}
use Rattle.cm_pool.proofs.{among-map, among-map_from, among-filter}
use Rattle.cm_layout.specs.declared.row.Row.{Row}
use Rattle.cm_index.specs.declared.index.IndexEntry.{IndexEntry}
use Rattle.cm_index.specs.declared.slot.BookSlot.{BookSlot}
use Rattle.cm_index.specs.Living.{swept}
use Rattle.cm_index.specs.Index.{owner_of, rank, name_in, is_named, key, tail_at, key_at, keys_at}
use Rattle.cm_index.specs.Index.{IsEntry, IsIndex, Rise, leads_to_life}
use Rattle.cm_index.specs.Sweep.{places_from, shifted, swept_entries}
use Rattle.cm_index.proofs.Living.{living-swept}
use Rattle.cm_index.proofs.Sorted.{equal-itself, all-among}
use Rattle.cm_index.proofs.Indexes.{leads-is, leads-there}

get-among : {X : Type 0} (xs : List X) (i : ℕ) (x : X) → slice_get xs i ≡ Some x → Among x xs
get-among [] i x h = absurd (cc)
get-among (y ∷ xs) zero x h = let is : y ≡ x = cc in inl (sym is)
get-among (y ∷ xs) (suc i) x h = inr (get-among xs i x h)

all-filter : {X Y : Type 0} (f : X → Y) (p : X → Bool) (Q : Y → Type 0) (xs : List X)
    → AllByRecursion Q (map f xs) → AllByRecursion Q (map f (filter p xs))
all-filter f p Q [] h = tt
all-filter f p Q (x ∷ xs) h = by_test (all-filter f p Q xs h.1) (p x)
  where
    by_test : AllByRecursion Q (map f (filter p xs)) → (t : Bool)
        → AllByRecursion Q (map f (cond t (x ∷ filter p xs) (filter p xs)))
    by_test behind true = (h.0, behind)
    by_test behind false = behind

rise-filter : {X : Type 0} (f : X → List ℕ) (p : X → Bool) (xs : List X) → Rise (map f xs)
    → Rise (map f (filter p xs))
rise-filter f p [] h = tt
rise-filter f p (x ∷ xs) h = by_test (rise-filter f p xs h.1) (p x)
  where
    by_test : Rise (map f (filter p xs)) → (t : Bool)
        → Rise (map f (cond t (x ∷ filter p xs) (filter p xs)))
    by_test behind true = (all-filter f p (λ b. slice_cmp nat_cmp (f x) b ≡ Less) xs h.0, behind)
    by_test behind false = behind

-- ---- no more keys than rows

record TakenOut (x : List ℕ) (ys : List (List ℕ)) : Type 0 where
  rest : List (List ℕ)
  count : length ys ≡ suc (length rest)
  others : (y : List ℕ) → Among y ys → (y ≡ x) ⊎ Among y rest

take-out : (x : List ℕ) (ys : List (List ℕ)) → Among x ys → TakenOut x ys
take-out x [] none = absurd none
take-out x (y ∷ ys) (inl e) =
    record {
      rest = ys;
      count = refl;
      others = λ z m. elim m [ inl f ↦ inl (f ∙ sym e) | inr there ↦ inr there ];
    }
take-out x (y ∷ ys) (inr m) =
    let t = take-out x ys m in
    record {
      rest = y ∷ t.rest;
      count = ap suc t.count;
      others = λ z n. elim n [
        | inl f ↦ inr (inl f)
        | inr there ↦ elim (t.others z there) [ inl e ↦ inl e | inr in_rest ↦ inr (inr in_rest) ]
      ];
    }

few-in : (ks ys : List (List ℕ)) → Rise ks → ((k : List ℕ) → Among k ks → Among k ys)
    → length ks ≤ length ys
few-in [] ys h all = omega arith
few-in (k ∷ ks) ys h all =
    let t = take-out k ys (all k (inl refl)) in
    let fewer = few-in ks t.rest h.1 (λ y m. elim (t.others y (all y (inr m))) [
      | inl e ↦ absurd (
          let less : slice_cmp nat_cmp k k ≡ Less =
          subst (λ (z : List ℕ). slice_cmp nat_cmp k z ≡ Less) e
          (all-among (λ b. slice_cmp nat_cmp k b ≡ Less) ks y h.0 m) in
          let same : slice_cmp nat_cmp k k ≡ Equal = equal-itself k in
          cc)
      | inr there ↦ there
    ]) in
    omega (arith, fewer, t.count)

-- ---- the places of later rows

record Placed {X : Type 0} (k : ℕ) (slots : List (BookSlot X)) (i : ℕ) (s : BookSlot X) : Type 0
  where
    place : ℕ
    is : get_or (places_from k slots) i 0 ≡ k + place
    there : slice_get (swept slots) place ≡ Some s

module _ {X : Type 0} where
  placed : (k : ℕ) (slots : List (BookSlot X)) (i : ℕ) (s : BookSlot X) → slice_get slots i ≡ Some s
      → s.live ≡ true → Placed k slots i s
  placed k [] i s h n = absurd (cc)
  placed k (y ∷ slots) zero s h n =
      let is : y ≡ s = cc in
      let own : y.live ≡ true = ap (λ (z : BookSlot X). z.live) is ∙ n in
      record {
        place = 0;
        is = omega arith;
        there = ap (λ (t : Bool). slice_get (cond t (y ∷ swept slots) (swept slots)) 0) own
            ∙ ap Some is;
      }
  placed k (y ∷ slots) (suc i) s h n =
      by_test (placed k slots i s h n) (placed (k + 1) slots i s h n) y.live refl
    where
      by_test : Placed k slots i s → Placed (k + 1) slots i s → (t : Bool) → y.live ≡ t
          → Placed k (y ∷ slots) (suc i) s
      by_test gone here false e =
          record { place = gone.place; is = rw (e) gone.is; there = rw (e) gone.there }
      by_test gone here true e =
          record {
            place = suc here.place;
            is = rw (e) (omega (arith, here.is));
            there = rw (e) here.there;
          }

  pub length-places : (k : ℕ) (slots : List (BookSlot X)) → length (places_from k slots)
      ≡ length slots
  length-places k [] = refl
  length-places k (s ∷ slots) = ap suc (length-places (cond s.live (k + 1) k) slots)

-- ---- the entries that stay

module _ {P : Type 0} (mark : ℕ → List ℕ → ℕ) (name_of : P → List ℕ)
    (slots : List (BookSlot (Row P))) where
  abbrev moved_up : IndexEntry → IndexEntry
  moved_up e = shifted (places_from 0 slots) e

  place-of : (e : IndexEntry) (s : BookSlot (Row P)) → slice_get slots e.at ≡ Some s → s.live ≡ true
      → slice_get (swept slots) (moved_up e).at ≡ Some s
  place-of e s there n =
      let p = placed 0 slots e.at s there n in
      let at : get_or (places_from 0 slots) e.at 0 ≡ p.place = omega (arith, p.is) in
      ap (slice_get (swept slots)) at ∙ p.there

  entry-kept : (e : IndexEntry) → IsEntry mark name_of slots e → leads_to_life slots e ≡ true
      → IsEntry mark name_of (swept slots) (moved_up e)
  entry-kept e h s =
      let live : h.slot.live ≡ true = sym (leads-is slots e h.slot h.there) ∙ s in
      record {
        slot = h.slot;
        there = place-of e h.slot h.there live;
        fingerprint = h.fingerprint;
        first = λ alive. ap (find
            (is_named name_of (rank (owner_of h.slot.item)) (name_in name_of h.slot.item)))
            (living-swept slots) ∙ h.first alive;
      }

  each-kept : (es : List IndexEntry) → AllByRecursion (IsEntry mark name_of slots) es
      → AllByRecursion (IsEntry mark name_of (swept slots))
      (map moved_up (filter (leads_to_life slots) es))
  each-kept [] h = tt
  each-kept (e ∷ es) h = by_test (each-kept es h.1) (leads_to_life slots e) refl
    where
      by_test : AllByRecursion (IsEntry mark name_of (swept slots))
          (map moved_up (filter (leads_to_life slots) es)) → (t : Bool) → leads_to_life slots e ≡ t
          → AllByRecursion (IsEntry mark name_of (swept slots))
          (map moved_up (cond t (e ∷ filter (leads_to_life slots) es)
          (filter (leads_to_life slots) es)))
      by_test behind true s = (entry-kept e h.0 s, behind)
      by_test behind false s = behind

  key-kept : (e : IndexEntry) (s : BookSlot (Row P)) → slice_get slots e.at ≡ Some s
      → leads_to_life slots e ≡ true
      → key_at name_of (swept slots) (moved_up e) ≡ key_at name_of slots e
  key-kept e s there lives =
      let live : s.live ≡ true = sym (leads-is slots e s there) ∙ lives in
      ap (λ (r : Option (BookSlot (Row P))). e.fingerprint ∷ tail_at name_of r) (place-of e s there
      live
      ∙ sym there)

  keys-kept : (es : List IndexEntry) → AllByRecursion (IsEntry mark name_of slots) es
      → keys_at name_of (swept slots) (map moved_up (filter (leads_to_life slots) es))
      ≡ keys_at name_of slots (filter (leads_to_life slots) es)
  keys-kept [] h = refl
  keys-kept (e ∷ es) h = by_test (keys-kept es h.1) (leads_to_life slots e) refl
    where
      by_test : keys_at name_of (swept slots) (map moved_up (filter (leads_to_life slots) es))
          ≡ keys_at name_of slots (filter (leads_to_life slots) es) → (t : Bool)
          → leads_to_life slots e ≡ t
          → keys_at name_of (swept slots)
          (map moved_up (cond t (e ∷ filter (leads_to_life slots) es)
          (filter (leads_to_life slots) es)))
          ≡ keys_at name_of slots (cond t (e ∷ filter (leads_to_life slots) es)
          (filter (leads_to_life slots) es))
      by_test behind true s =
          ap (λ (k : List ℕ). k ∷ keys_at name_of (swept slots)
          (map moved_up (filter (leads_to_life slots) es))) (key-kept e h.0.slot h.0.there s)
          ∙ ap (λ (ks : List (List ℕ)). key_at name_of slots e ∷ ks) behind
      by_test behind false s = behind

-- ---- how many entries there are

module _ {P : Type 0} (mark : ℕ → List ℕ → ℕ) (name_of : P → List ℕ) where
  abbrev whole : BookSlot (Row P) → List ℕ
  whole s = key mark (rank (owner_of s.item)) (name_in name_of s.item)

  entry-whole : (slots : List (BookSlot (Row P))) (es : List IndexEntry) (k : List ℕ)
      → AllByRecursion (IsEntry mark name_of slots) es → Among k (keys_at name_of slots es)
      → Among k (map whole slots)
  entry-whole slots es k each m =
      let e = among-map_from (key_at name_of slots) k es m in
      let h = all-among (IsEntry mark name_of slots) es e.0 each e.1 in
      let own : key_at name_of slots e.0 ≡ whole h.slot =
      ap (λ (r : Option (BookSlot (Row P))). (e.0).fingerprint ∷ tail_at name_of r) h.there
      ∙ ap (λ (f : ℕ). f ∷ rank (owner_of h.slot.item) ∷ name_in name_of h.slot.item)
      h.fingerprint in
      subst (λ (k : List ℕ). Among k (map whole slots)) (sym (e.2 ∙ own))
      (among-map whole h.slot slots (get-among slots (e.0).at h.slot h.there))

  few-entries : (slots : List (BookSlot (Row P))) (es : List IndexEntry)
      → AllByRecursion (IsEntry mark name_of slots) es → Rise (keys_at name_of slots es)
      → length es ≤ length slots
  few-entries slots es each rises =
      omega (
        arith,
        few-in (keys_at name_of slots es) (map whole slots) rises
            (λ k m. entry-whole slots es k each m),
        length-map es (key_at name_of slots),
        length-map slots whole,
      )

  pub index-swept : (slots : List (BookSlot (Row P))) (es : List IndexEntry)
      → IsIndex mark name_of slots es
      → IsIndex mark name_of (swept slots)
      (map (shifted (places_from 0 slots)) (filter (leads_to_life slots) es))
  index-swept slots es h =
      let keys = keys-kept mark name_of slots es h.each in
      let each = each-kept mark name_of slots es h.each in
      let up = shifted (places_from 0 slots) in
      let kept = filter (leads_to_life slots) es in
      let rises : Rise (keys_at name_of (swept slots) (map up kept)) =
      rw (keys) (rise-filter (key_at name_of slots) (leads_to_life slots) es h.rises) in
      record {
        each = each;
        rises = rises;
        complete = λ o x row is.
            let l = h.complete o x row
            (ap (find (is_named name_of o x)) (sym (living-swept slots)) ∙ is) in
            let t = leads-there slots l.entry l.lives in
            let live : (t.0).live ≡ true = sym (leads-is slots l.entry t.0 t.1) ∙ l.lives in
            record {
              entry = up l.entry;
              among = among-map up l.entry kept
                  (among-filter (leads_to_life slots) l.entry es l.among l.lives);
              key_is = key-kept mark name_of slots l.entry t.0 t.1 l.lives ∙ l.key_is;
              lives = leads-is (swept slots) (up l.entry) t.0
                  (place-of mark name_of slots l.entry t.0 t.1 live) ∙ live;
            };
        few = few-entries (swept slots) (map up kept) each rises;
      }

  pub within-slots : (slots : List (BookSlot (Row P))) (es : List IndexEntry)
      → AllByRecursion (IsEntry mark name_of slots) es
      → AllByRecursion (λ e. e.at < length slots) es
  within-slots slots [] h = tt
  within-slots slots (e ∷ es) h = (within slots (h.0).there, within-slots slots es h.1)
    where
      within : (slots : List (BookSlot (Row P))) → {i : ℕ} {s : BookSlot (Row P)}
          → slice_get slots i ≡ Some s → i < length slots
      within slots {i = i} {s = s} e = slice_get_within slots i s e

pub all-kept : {X : Type 0} (p : X → Bool) (Q : X → Type 0) (xs : List X) → AllByRecursion Q xs
    → AllByRecursion Q (filter p xs)
all-kept p Q [] h = tt
all-kept p Q (x ∷ xs) h = by_test (all-kept p Q xs h.1) (p x)
  where
    by_test : AllByRecursion Q (filter p xs) → (t : Bool)
        → AllByRecursion Q (cond t (x ∷ filter p xs) (filter p xs))
    by_test behind true = (h.0, behind)
    by_test behind false = behind

length-kept : {X : Type 0} (p : X → Bool) (xs : List X) → length (filter p xs) ≤ length xs
length-kept p [] = omega arith
length-kept p (x ∷ xs) = by_test (length-kept p xs) (p x)
  where
    by_test : length (filter p xs) ≤ length xs → (t : Bool)
        → length (cond t (x ∷ filter p xs) (filter p xs)) ≤ suc (length xs)
    by_test behind true = omega (arith, behind)
    by_test behind false = omega (arith, behind)

pub fewer-swept : {P : Type 0} (slots : List (BookSlot (Row P))) (places : List ℕ)
    (es : List IndexEntry)
    → length (swept_entries slots places es) ≤ length es
fewer-swept slots places es =
    omega (
      arith,
      length-kept (leads_to_life slots) es,
      length-map (filter (leads_to_life slots) es) (shifted places),
    )

-- sweeping block by block or all at once
pub joined-swept : {P : Type 0} (slots : List (BookSlot (Row P))) (places : List ℕ)
    (bs : List (List IndexEntry))
    → joined (map (swept_entries slots places) bs) ≡ swept_entries slots places (joined bs)
joined-swept slots places [] = refl
joined-swept slots places (b ∷ bs) =
    ap (λ l. swept_entries slots places b ++ l) (joined-swept slots places bs)
    ∙ sym (ap (map (shifted places)) (filter-append (leads_to_life slots) b (joined bs))
    ∙ map-append (shifted places) (filter (leads_to_life slots) b)
    (filter (leads_to_life slots) (joined bs)))

-- ---- each item of a list changed in turn

abbrev half_changed : {X : Type 0} → (X → X) → List X → ℕ → List X
half_changed f xs i = map f (take i xs) ++ drop i xs

pub change-seam : {X : Type 0} (f : X → X) (xs : List X) (i : ℕ) (d : X) → i < length xs
    → get_or (half_changed f xs i) i d ≡ get_or xs i d
change-seam f [] i d lt = absurd (omega arith)
change-seam f (x ∷ xs) zero d lt = refl
change-seam f (x ∷ xs) (suc i) d lt = change-seam f xs i d (omega arith)

change-set : {X : Type 0} (f : X → X) (xs : List X) (i : ℕ) (d : X) → i < length xs
    → set (half_changed f xs i) i (f (get_or xs i d)) ≡ half_changed f xs (suc i)
change-set f [] i d lt = absurd (omega arith)
change-set f (x ∷ xs) zero d lt = refl
change-set f (x ∷ xs) (suc i) d lt = ap (λ l. f x ∷ l) (change-set f xs i d (omega arith))

pub change-more : {X : Type 0} (f : X → X) (xs items : List X) (i : ℕ) (d y : X) → i < length xs
    → items ≡ half_changed f xs i → y ≡ f (get_or xs i d)
    → set items i y ≡ half_changed f xs (i + 1)
change-more f xs items i d y lt e is =
    let next : half_changed f xs (suc i) ≡ half_changed f xs (i + 1) =
    ap (half_changed f xs) (sym (add-one i)) in
    ap (λ l. set l i y) e ∙ ap (λ x. set (half_changed f xs i) i x) is
    ∙ change-set f xs i d lt ∙ next
