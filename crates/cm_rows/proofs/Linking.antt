-- The links of places: one more place, a row that ends, a loader unloaded, and rows that move.
-- For `LiveRows::clear`, `LiveRows::new`, `move_rows` and others.
use Rattle.std.proofs.Common.{◌≡◌, ◌≢◌, ℕ, zero, suc, ◌+◌, ◌<◌, ◌≤◌, ◌⊎◌, Bool, true, false, cond}
use Rattle.std.proofs.Common.{eqb, List, [], ◌∷◌, ◌++◌, map, length, take, get_or, set, Option}
use Rattle.std.proofs.Common.{Some, None, refl, sym, ◌∙◌, ap, subst, arith, inl, inr, length-append}
use Rattle.std.proofs.Common.{length-set, add-one}
use Rattle.std.specs.Prelude.{not, ◌&&◌}
use Rattle.std.specs.Option.{option_map}
use Rattle.std.specs.List.{slice_get, AllByRecursion}
use Rattle.std.proofs.lemmas.Bool.{eqb-true, eq-eqb, and_parts}
use Rattle.std.proofs.lemmas.List.{length-map, take-append-le}
use Rattle.std.proofs.Math.Seq.{take-append_seam, get_or-append_seam}
use Rattle.std.proofs.Math.ListN.{get_or-append}
use Rattle.std.proofs.lemmas.Option.{slice_get_within, slice_get-map}
use Rattle.cm_pool.specs.declared.chunk.Chunk.{Chunk}
use Rattle.cm_pool.specs.Chunks.{same_chunk}
use Rattle.cm_pool.specs.Lists.{Among, Pairwise}
use Rattle.cm_layout.specs.declared.class_row.ClassRow.{ClassRow}
use Rattle.cm_layout.specs.declared.row.Row.{Row}
use Rattle.cm_layout.specs.declared.row.Row.TheVariants.{Loader, Class}
use Rattle.cm_layout.specs.Rows.{is_of, moved_row, classes_in, numbers_in}
use Rattle.cm_index.specs.declared.slot.BookSlot.{BookSlot}
use Rattle.cm_index.specs.Living.{living, unloaded, moved_slot}
use Rattle.cm_rows.specs.declared.live_loader.LiveLoader.{LiveLoader}
use Rattle.cm_rows.specs.Loaders.{numbers_of_loaders, items}
use Rattle.cm_rows.specs.Links.{loader_in, place_behind, last_place, AreLinked, last_places, ended}
use Rattle.cm_rows.specs.Links.{places_left}
use Rattle.cm_rows.proofs.Loaders.{ne-eqb}
use Rattle.cm_rows.proofs.Holding.{each-among}

-- ---- lists

pub get-set_same : {X : Type 0} (xs : List X) (i : ℕ) (x y : X) → slice_get (set xs i x) i ≡ Some y
    → x ≡ y
get-set_same [] i x y h = absurd (cc)
get-set_same (z ∷ xs) zero x y h = cc
get-set_same (z ∷ xs) (suc i) x y h = get-set_same xs i x y h

pub get-set_other : {X : Type 0} (xs : List X) (i j : ℕ) (x : X) → i ≢ j
    → slice_get (set xs i x) j ≡ slice_get xs j
get-set_other [] i j x n = refl
get-set_other (z ∷ xs) zero zero x n = absurd (n refl)
get-set_other (z ∷ xs) zero (suc j) x n = refl
get-set_other (z ∷ xs) (suc i) zero x n = refl
get-set_other (z ∷ xs) (suc i) (suc j) x n = get-set_other xs i j x (λ e. n (ap suc e))

take-set : {X : Type 0} (xs : List X) (i j : ℕ) (x : X) → take j (set xs i x) ≡ set (take j xs) i x
take-set [] i zero x = refl
take-set [] i (suc j) x = refl
take-set (z ∷ xs) i zero x = refl
take-set (z ∷ xs) zero (suc j) x = refl
take-set (z ∷ xs) (suc i) (suc j) x = ap (λ l. z ∷ l) (take-set xs i j x)

pub take-set_before : {X : Type 0} (xs : List X) (i j : ℕ) (x : X) → j ≤ i
    → take j (set xs i x) ≡ take j xs
take-set_before xs i zero x h = refl
take-set_before [] i (suc j) x h = refl
take-set_before (z ∷ xs) zero (suc j) x h = absurd (omega arith)
take-set_before (z ∷ xs) (suc i) (suc j) x h =
    ap (λ l. z ∷ l) (take-set_before xs i j x (omega arith))

pub get-take : {X : Type 0} (xs : List X) (i j : ℕ) (s : X) → slice_get (take j xs) i ≡ Some s
    → slice_get xs i ≡ Some s
get-take xs i zero s h = absurd (cc)
get-take [] i (suc j) s h = h
get-take (z ∷ xs) zero (suc j) s h = h
get-take (z ∷ xs) (suc i) (suc j) s h = get-take xs i j s h

pub take-few : {X : Type 0} (i : ℕ) (xs : List X) → length (take i xs) ≤ i
take-few zero xs = omega arith
take-few (suc i) [] = omega arith
take-few (suc i) (x ∷ xs) = omega (arith, take-few i xs)

take-mapped : {X Y : Type 0} (f : X → Y) (xs : List X) (j : ℕ)
    → take j (map f xs) ≡ map f (take j xs)
take-mapped f xs zero = refl
take-mapped f [] (suc j) = refl
take-mapped f (x ∷ xs) (suc j) = ap (λ l. f x ∷ l) (take-mapped f xs j)

-- what is in a list with one appended is in the list, or is that one
pub record GetsOld {X : Type 0} (xs : List X) (x : X) (i : ℕ) (s : X) : Type 0 where
  pub within : i < length xs
  pub there : slice_get xs i ≡ Some s

pub record GetsNew {X : Type 0} (xs : List X) (x : X) (i : ℕ) (s : X) : Type 0 where
  pub last : i ≡ length xs
  pub is : x ≡ s

pub get-push : {X : Type 0} (xs : List X) (x : X) (i : ℕ) (s : X)
    → slice_get (xs ++ x ∷ []) i ≡ Some s
    → GetsOld xs x i s ⊎ GetsNew xs x i s
get-push [] x zero s h = inr (record { last = refl; is = cc })
get-push [] x (suc i) s h = absurd (cc)
get-push (z ∷ xs) x zero s h = inl (record { within = omega arith; there = h })
get-push (z ∷ xs) x (suc i) s h =
    elim (get-push xs x i s h) [
      | inl o ↦ inl (record { within = omega (arith, o.within); there = o.there })
      | inr n ↦ inr (record { last = ap suc n.last; is = n.is })
    ]

option-from : {X Y : Type 0} (f : X → Y) (o : Option X) (y : Y) → option_map f o ≡ Some y
    → (x : X) × (o ≡ Some x) × (f x ≡ y)
option-from f None y h = absurd (cc)
option-from f (Some x) y h = (x, refl, cc)

-- ---- tests

and-false : (a : Bool) → (a && false) ≡ false
and-false true = refl
and-false false = refl

module _ {P : Type 0} where
  pub of-is : (u : ℕ) (row : Row P) → is_of u row ≡ eqb (loader_in row) u
  of-is u (Loader r) = refl
  of-is u (Class r p) = refl

  pub of-itself : (row : Row P) → is_of (loader_in row) row ≡ true
  of-itself row = of-is (loader_in row) row ∙ eq-eqb (loader_in row) (loader_in row) refl

  of-other : (u v : ℕ) (row : Row P) → is_of u row ≡ true → u ≢ v → is_of v row ≡ false
  of-other u v row h n =
      let is : loader_in row ≡ u = eqb-true (loader_in row) u (sym (of-is u row) ∙ h) in
      of-is v row ∙ ne-eqb (loader_in row) v (λ e. n (sym is ∙ e))

  pub moved-loader_in : (from to : Chunk) (row : Row P) → loader_in (moved_row from to row)
      ≡ loader_in row
  moved-loader_in from to (Loader r) = refl
  moved-loader_in from to (Class r p) = by_test (same_chunk r.place.chunk from)
    where
      by_test : (t : Bool)
          → loader_in (cond t (Class (record r { place = record r.place { chunk = to } }) p)
          (Class r p)) ≡ r.loader
      by_test true = refl
      by_test false = refl

-- ---- the last place

module _ {P : Type 0} where
  abbrev mine : ℕ → BookSlot (Row P) → Bool
  mine u s = s.live && is_of u s.item

  pub place-push : (u : ℕ) (slots : List (BookSlot (Row P))) (s : BookSlot (Row P))
      → last_place u (slots ++ s ∷ []) ≡ cond (mine u s) (Some (length slots)) (last_place u slots)
  place-push u [] s = refl
  place-push u (z ∷ slots) s =
      ap (λ (o : Option ℕ). place_behind o (mine u z)) (place-push u slots s)
      ∙ by_test (mine u s) (last_place u slots) (mine u z)
    where
      by_test : (t : Bool) (o : Option ℕ) (b : Bool)
          → place_behind (cond t (Some (length slots)) o) b
          ≡ cond t (Some (suc (length slots))) (place_behind o b)
      by_test true o b = refl
      by_test false o b = refl

  pub place-map : (u : ℕ) (f : BookSlot (Row P)
      → BookSlot (Row P)) (slots : List (BookSlot (Row P)))
      → ((s : BookSlot (Row P)) → mine u (f s) ≡ mine u s)
      → last_place u (map f slots) ≡ last_place u slots
  place-map u f [] same = refl
  place-map u f (s ∷ slots) same =
      ap (place_behind (last_place u (map f slots))) (same s)
      ∙ ap (λ (o : Option ℕ). place_behind o (mine u s)) (place-map u f slots same)

  pub place-none : (u : ℕ) (slots : List (BookSlot (Row P)))
      → AllByRecursion (λ row. is_of u row ≡ false) (living slots) → last_place u slots ≡ None
  place-none u [] h = refl
  place-none u (s ∷ slots) h = by_test (place-none u slots) s.live refl h
    where
      by_test : (AllByRecursion (λ row. is_of u row ≡ false) (living slots)
          → last_place u slots ≡ None) → (t : Bool) → s.live ≡ t
          → AllByRecursion (λ row. is_of u row ≡ false)
          (cond t (s.item ∷ living slots) (living slots))
          → place_behind (last_place u slots) (t && is_of u s.item) ≡ None
      by_test none true e h = ap (λ (o : Option ℕ). place_behind o (is_of u s.item)) (none h.1)
          ∙ ap (λ (b : Bool). cond b (Some 0) None) h.0
      by_test none false e h = ap (λ (o : Option ℕ). place_behind o false) (none h)

  -- a loader without a last place has no live rows
  pub none-place : (u : ℕ) (slots : List (BookSlot (Row P))) → last_place u slots ≡ None
      → map (unloaded u) slots ≡ slots
  none-place u [] h = refl
  none-place u (s ∷ slots) h =
      by_place (none-place u slots) (last_place u slots) refl (mine u s) refl h
    where
      stays : (a b : Bool) → (a && b) ≡ false → (a && not b) ≡ a
      stays true true e = absurd (cc)
      stays true false e = refl
      stays false b e = refl

      by_place : (last_place u slots ≡ None → map (unloaded u) slots ≡ slots) → (o : Option ℕ)
          → last_place u slots ≡ o → (t : Bool) → mine u s ≡ t
          → place_behind o t ≡ None → map (unloaded u) (s ∷ slots) ≡ s ∷ slots
      by_place none None is true e h = absurd (cc)
      by_place none None is false e h =
          ap (λ (b : Bool). record { item = s.item; live = b } ∷ map (unloaded u) slots)
          (stays s.live (is_of u s.item) e) ∙ ap (λ l. s ∷ l) (none is)
      by_place none (Some i) is t e h = absurd (cc)

  pub record StandsLast (u : ℕ) (slots : List (BookSlot (Row P))) (i : ℕ) : Type 0 where
    pub slot : BookSlot (Row P)
    pub there : slice_get slots i ≡ Some slot
    pub lives : slot.live ≡ true
    pub own : is_of u slot.item ≡ true

  pub stands-last : (u : ℕ) (slots : List (BookSlot (Row P))) (i : ℕ) → last_place u slots ≡ Some i
      → StandsLast u slots i
  stands-last u [] i h = absurd (cc)
  stands-last u (s ∷ slots) i h =
      by_place (stands-last u slots) (last_place u slots) refl (mine u s) refl i h
    where
      by_place : ((i : ℕ) → last_place u slots ≡ Some i → StandsLast u slots i) → (o : Option ℕ)
          → last_place u slots ≡ o → (t : Bool) → mine u s ≡ t → (i : ℕ)
          → place_behind o t ≡ Some i → StandsLast u (s ∷ slots) i
      by_place behind None is true e zero h = let p = and_parts s.live (is_of u s.item) e in
          record { slot = s; there = refl; lives = p.0; own = p.1 }
      by_place behind None is true e (suc i) h = absurd (cc)
      by_place behind None is false e i h = absurd (cc)
      by_place behind (Some j) is t e zero h = absurd (cc)
      by_place behind (Some j) is t e (suc i) h =
          let same : j ≡ i = cc in
          let found = behind i (is ∙ ap Some same) in
          record { slot = found.slot; there = found.there; lives = found.lives; own = found.own }

  -- no live row of the loader comes after its last place
  pub none-behind : (u : ℕ) (slots : List (BookSlot (Row P))) (i j : ℕ) (s : BookSlot (Row P))
      → last_place u slots ≡ Some i → slice_get slots j ≡ Some s → mine u s ≡ true → j ≤ i
  none-behind u [] i j s h there e = absurd (cc)
  none-behind u (z ∷ slots) i zero s h there e = omega arith
  none-behind u (z ∷ slots) i (suc j) s h there e =
      by_place (λ k is. none-behind u slots k j s is there e) (last_place u slots) refl h
    where
      by_place : ((k : ℕ) → last_place u slots ≡ Some k → j ≤ k) → (o : Option ℕ)
          → last_place u slots ≡ o → place_behind o (mine u z) ≡ Some i → suc j ≤ i
      by_place behind None is h = absurd (some-place u slots j s there e is)
        where
          some-place : (u : ℕ) (slots : List (BookSlot (Row P))) (j : ℕ) (s : BookSlot (Row P))
              → slice_get slots j ≡ Some s → mine u s ≡ true → ¬ (last_place u slots ≡ None)
          some-place u [] j s there e none = absurd (cc)
          some-place u (z ∷ slots) zero s there e none =
              let is : z ≡ s = cc in
              let sure : mine u z ≡ true = ap (mine u) is ∙ e in
              by_first (last_place u slots) (none_of (last_place u slots) sure none)
            where
              none_of : (o : Option ℕ) → mine u z ≡ true → place_behind o (mine u z) ≡ None
                  → place_behind o true ≡ None
              none_of o sure n = subst (λ (t : Bool). place_behind o t ≡ None) sure n

              by_first : (o : Option ℕ) → place_behind o true ≡ None → ⊥
              by_first None n = absurd (cc)
              by_first (Some k) n = absurd (cc)
          some-place u (z ∷ slots) (suc j) s there e none =
              some-place u slots j s there e (by_rest (last_place u slots) none)
            where
              by_rest : (o : Option ℕ) → place_behind o (mine u z) ≡ None → o ≡ None
              by_rest None n = refl
              by_rest (Some k) n = absurd (cc)
      by_place behind (Some k) is h =
          let le = behind k is in
          let same : suc k ≡ i = cc in
          omega (arith, le, same)

  -- if the last row ends, the one before it is the last
  pub place-ended : (u : ℕ) (slots : List (BookSlot (Row P))) (i : ℕ) (x : BookSlot (Row P))
      → last_place u slots ≡ Some i → x.live ≡ false
      → last_place u (set slots i x) ≡ last_place u (take i slots)
  place-ended u [] i x h dead = absurd (cc)
  place-ended u (s ∷ slots) i x h dead =
      by_place (λ j is. place-ended u slots j x is dead) (last_place u slots) refl
      (mine u s) refl i h
    where
      by_place : ((j : ℕ) → last_place u slots ≡ Some j → last_place u (set slots j x)
          ≡ last_place u (take j slots)) → (o : Option ℕ) → last_place u slots ≡ o → (t : Bool)
          → mine u s ≡ t → (i : ℕ)
          → place_behind o t ≡ Some i
          → last_place u (set (s ∷ slots) i x) ≡ last_place u (take i (s ∷ slots))
      by_place behind None is true e zero h =
          ap (λ (o : Option ℕ). place_behind o (mine u x)) is
          ∙ ap (λ (b : Bool). cond (b && is_of u x.item) (Some 0) None) dead
      by_place behind None is true e (suc i) h = absurd (cc)
      by_place behind None is false e i h = absurd (cc)
      by_place behind (Some j) is t e zero h = absurd (cc)
      by_place behind (Some j) is t e (suc i) h =
          let same : j ≡ i = cc in
          ap (λ (o : Option ℕ). place_behind o (mine u s)) (behind i (is ∙ ap Some same))

  -- the last place of another loader stays
  pub place-set : (v : ℕ) (slots : List (BookSlot (Row P))) (i : ℕ) (x : BookSlot (Row P))
      → ((s : BookSlot (Row P)) → slice_get slots i ≡ Some s → mine v x ≡ mine v s)
      → last_place v (set slots i x) ≡ last_place v slots
  place-set v [] i x same = refl
  place-set v (s ∷ slots) zero x same = ap (place_behind (last_place v slots)) (same s refl)
  place-set v (s ∷ slots) (suc i) x same =
      ap (λ (o : Option ℕ). place_behind o (mine v s)) (place-set v slots i x same)

  pub place-of_other : (u v : ℕ) (slots : List (BookSlot (Row P))) → u ≢ v
      → last_place v (map (unloaded u) slots) ≡ last_place v slots
  place-of_other u v slots n =
      place-map v (unloaded u) slots (λ s. by_tests s s.live (is_of u s.item) refl)
    where
      by_tests : (s : BookSlot (Row P)) (a b : Bool) → is_of u s.item ≡ b
          → ((a && not b) && is_of v s.item) ≡ (a && is_of v s.item)
      by_tests s true true e = sym (of-other u v s.item e n)
      by_tests s true false e = refl
      by_tests s false b e = refl

-- ---- the links

module _ {P : Type 0} where
  pub linked-none : AreLinked {P = P} [] []
  linked-none = record { same = refl; each = λ i s there. absurd (cc) }

  -- one more row
  pub linked-push : (slots : List (BookSlot (Row P))) (before : List (Option ℕ))
      (s : BookSlot (Row P))
      (b : Option ℕ)
      → AreLinked slots before → b ≡ last_place (loader_in s.item) slots
      → AreLinked (slots ++ s ∷ []) (before ++ b ∷ [])
  linked-push slots before s b h is =
      record {
        same = omega (arith, h.same, length-append before (b ∷ []), length-append slots (s ∷ []));
        each = λ i r there live. elim (get-push slots s i r there) [
          | inl o ↦
              get_or-append before (b ∷ []) None i (omega (arith, o.within, h.same))
              ∙ h.each i r o.there live
              ∙ ap (last_place (loader_in r.item))
              (sym (take-append-le i slots (s ∷ []) (omega (arith, o.within))))
          | inr n ↦
              let at : i ≡ length before = n.last ∙ sym h.same in
              ap (λ (j : ℕ). get_or (before ++ b ∷ []) j None) at
              ∙ get_or-append_seam before b [] None ∙ is
              ∙ ap (λ (t : BookSlot (Row P)). last_place (loader_in t.item) slots) n.is
              ∙ ap (last_place (loader_in r.item))
              (sym (ap (λ (j : ℕ). take j (slots ++ s ∷ [])) n.last
              ∙ take-append_seam slots (s ∷ [])))
        ];
      }

  -- the last row of a loader ends
  pub linked-ended : (u : ℕ) (slots : List (BookSlot (Row P))) (before : List (Option ℕ)) (i : ℕ)
      (x : BookSlot (Row P))
      → AreLinked slots before → last_place u slots ≡ Some i → x.live ≡ false
      → AreLinked (set slots i x) before
  linked-ended u slots before i x h last dead =
      let stands = stands-last u slots i last in
      record {
        same = h.same ∙ sym (length-set slots i x);
        each = λ j r there live. by_loader stands j r there live (eqb i j) refl
            (eqb u (loader_in r.item)) refl;
      }
    where
      by_loader : StandsLast u slots i → (j : ℕ) (r : BookSlot (Row P))
          → slice_get (set slots i x) j
          ≡ Some r → r.live ≡ true
          → (a : Bool) → eqb i j ≡ a → (t : Bool) → eqb u (loader_in r.item) ≡ t
          → get_or before j None ≡ last_place (loader_in r.item) (take j (set slots i x))
      by_loader stands j r there live true at t own =
          let same : i ≡ j = eqb-true i j at in
          let is : x ≡ r = get-set_same slots i x r (ap (slice_get (set slots i x)) same ∙ there) in
          let alive : x.live ≡ true = ap (λ (s : BookSlot (Row P)). s.live) is ∙ live in
          absurd (cc)
      by_loader stands j r there live false at true own =
          let other : i ≢ j = λ e. (let sure = eq-eqb i j e in absurd (cc)) in
          let was : slice_get slots j ≡ Some r = sym (get-set_other slots i j x other) ∙ there in
          let same : u ≡ loader_in r.item = eqb-true u (loader_in r.item) own in
          let sure : is_of u r.item ≡ true =
          ap (λ (v : ℕ). is_of v r.item) same ∙ of-itself r.item in
          let le = none-behind u slots i j r last was
          (ap (λ (b : Bool). b && is_of u r.item) live ∙ sure) in
          h.each j r was live ∙ ap (last_place (loader_in r.item))
          (sym (take-set_before slots i j x le))
      by_loader stands j r there live false at false own =
          let other : i ≢ j = λ e. (let sure = eq-eqb i j e in absurd (cc)) in
          let was : slice_get slots j ≡ Some r = sym (get-set_other slots i j x other) ∙ there in
          let v = loader_in r.item in
          let apart : u ≢ v = λ e. (let sure = eq-eqb u v e in absurd (cc)) in
          h.each j r was live
          ∙ sym (ap (last_place v) (take-set slots i j x)
          ∙ place-set v (take j slots) i x (λ s at_i.
          let is : stands.slot ≡ s =
          (let one = stands.there in let two = get-take slots i j s at_i in cc) in
          let none : is_of v s.item ≡ false = ap (λ (t : BookSlot (Row P)). is_of v t.item) (sym is)
          ∙ of-other u v stands.slot.item stands.own apart in
          ap (λ (b : Bool). b && is_of v x.item) dead
          ∙ sym (ap (λ (b : Bool). s.live && b) none ∙ and-false s.live)))

  -- records moved to another chunk
  slot-loader_in : (from to : Chunk) (s : BookSlot (Row P)) → loader_in (moved_slot from to s).item
      ≡ loader_in s.item
  slot-loader_in from to s = by_test s.live
    where
      by_test : (t : Bool) → loader_in (cond t (moved_row from to s.item) s.item) ≡ loader_in s.item
      by_test true = moved-loader_in from to s.item
      by_test false = refl

  pub place-moved : (from to : Chunk) (u : ℕ) (slots : List (BookSlot (Row P)))
      → last_place u (map (moved_slot from to) slots) ≡ last_place u slots
  place-moved from to u slots =
      place-map u (moved_slot from to) slots
      (λ s. ap (λ (b : Bool). s.live && b) (of-is u (moved_slot from to s).item
      ∙ ap (λ (n : ℕ). eqb n u) (slot-loader_in from to s) ∙ sym (of-is u s.item)))

  pub linked-moved : (from to : Chunk) (slots : List (BookSlot (Row P))) (before : List (Option ℕ))
      → AreLinked slots before → AreLinked (map (moved_slot from to) slots) before
  linked-moved from to slots before h =
      record {
        same = h.same ∙ sym (length-map slots (moved_slot {P = P} from to));
        each = λ i r there live.
            let was = option-from (moved_slot from to) (slice_get slots i) r
            (sym (slice_get-map (moved_slot from to) slots i) ∙ there) in
            let alive : (was.0).live ≡ true = ap (λ (s : BookSlot (Row P)). s.live) was.2 ∙ live in
            let loader : loader_in (was.0).item ≡ loader_in r.item =
            sym (slot-loader_in from to was.0)
            ∙ ap (λ (s : BookSlot (Row P)). loader_in s.item) was.2 in
            h.each i was.0 was.1 alive ∙ ap (λ (u : ℕ). last_place u (take i slots)) loader
            ∙ sym (ap (last_place (loader_in r.item)) (take-mapped (moved_slot from to) slots i)
            ∙ place-moved from to (loader_in r.item) (take i slots));
      }

module _ {P : Type 0} where
  -- at the last place of a loader, `before` has the place before it
  pub last-before : (u : ℕ) (slots : List (BookSlot (Row P))) (before : List (Option ℕ)) (i : ℕ)
      → AreLinked slots before → last_place u slots ≡ Some i
      → get_or before i None ≡ last_place u (take i slots)
  last-before u slots before i h last =
      let at = stands-last u slots i last in
      let loader : loader_in at.slot.item ≡ u =
      eqb-true (loader_in at.slot.item) u (sym (of-is u at.slot.item) ∙ at.own) in
      h.each i at.slot at.there at.lives ∙ ap (λ (v : ℕ). last_place v (take i slots)) loader

  -- which is a lower place
  pub place-less : (u : ℕ) (slots : List (BookSlot (Row P))) (i : ℕ)
      → places_left (last_place u (take i slots)) ≤ i
  place-less u slots i = by_place (last_place u (take i slots)) refl
    where
      by_place : (o : Option ℕ) → last_place u (take i slots) ≡ o → places_left o ≤ i
      by_place None is = omega arith
      by_place (Some j) is =
          let at = stands-last u (take i slots) j is in
          let lt = slice_get_within (take i slots) j at.slot at.there in
          omega (arith, lt, take-few i slots)

-- ---- the last places of loaders

abbrev Below : LiveLoader → LiveLoader → Type 0
Below a b = a.number < b.number

number-behind : (ls : List LiveLoader) (i : ℕ) (d l : LiveLoader) → AllByRecursion (Below l) ls
    → i < length ls
    → l.number < (get_or ls i d).number
number-behind [] i d l h lt = absurd (omega arith)
number-behind (m ∷ ls) zero d l h lt = h.0
number-behind (m ∷ ls) (suc i) d l h lt = number-behind ls i d l h.1 (omega arith)

module _ {P : Type 0} where
  pub places-same : (slots more : List (BookSlot (Row P))) (ns : List ℕ)
      → ((u : ℕ) → last_place u more ≡ last_place u slots)
      → last_places more ns ≡ last_places slots ns
  places-same slots more [] same = refl
  places-same slots more (n ∷ ns) same = ap (λ (o : Option ℕ). o ∷ last_places more ns) (same n)
      ∙ ap (λ (os : List (Option ℕ)). last_place n slots ∷ os) (places-same slots more ns same)

  -- one more row, of the loader at a place
  pub places-push : (slots : List (BookSlot (Row P))) (s : BookSlot (Row P)) (ls : List LiveLoader)
      (i : ℕ)
      (d : LiveLoader)
      → s.live ≡ true → Pairwise Below ls → i < length ls → (get_or ls i d).number
      ≡ loader_in s.item
      → set (last_places slots (numbers_of_loaders ls)) i (Some (length slots))
      ≡ last_places (slots ++ s ∷ []) (numbers_of_loaders ls)
  places-push slots s [] i d live h lt e = absurd (omega arith)
  places-push slots s (l ∷ ls) zero d live h lt e =
      ap (λ (o : Option ℕ). o ∷ last_places slots (numbers_of_loaders ls))
      (sym (own slots s l.number live e))
      ∙ ap (λ (os : List (Option ℕ)). last_place l.number (slots ++ s ∷ []) ∷ os)
      (others slots s ls l.number e live h.0)
    where
      own : (slots : List (BookSlot (Row P))) (s : BookSlot (Row P)) (u : ℕ) → s.live ≡ true
          → u ≡ loader_in s.item
          → last_place u (slots ++ s ∷ []) ≡ Some (length slots)
      own slots s u live e =
          let sure : mine u s ≡ true = ap (λ (b : Bool). b && is_of u s.item) live
          ∙ ap (λ (v : ℕ). is_of v s.item) e ∙ of-itself s.item in
          place-push u slots s ∙ ap
          (λ (b : Bool). cond b (Some (length slots)) (last_place u slots)) sure

      others : (slots : List (BookSlot (Row P))) (s : BookSlot (Row P)) (ls : List LiveLoader)
          (u : ℕ)
          → u ≡ loader_in s.item → s.live ≡ true
          → AllByRecursion (λ m. u < m.number) ls
          → last_places slots (numbers_of_loaders ls)
          ≡ last_places (slots ++ s ∷ []) (numbers_of_loaders ls)
      others slots s [] u e live h = refl
      others slots s (m ∷ ls) u e live h =
          ap (λ (o : Option ℕ). o ∷ last_places slots (numbers_of_loaders ls))
          (sym (other-push slots s m.number (λ same. omega (arith, h.0, e, same))))
          ∙ ap (λ (os : List (Option ℕ)). last_place m.number (slots ++ s ∷ []) ∷ os)
          (others slots s ls u e live h.1)
        where
          other-push : (slots : List (BookSlot (Row P))) (s : BookSlot (Row P)) (v : ℕ)
              → ¬ (v ≡ loader_in s.item)
              → last_place v (slots ++ s ∷ []) ≡ last_place v slots
          other-push slots s v n =
              place-push v slots s ∙ ap
              (λ (b : Bool). cond (s.live && b) (Some (length slots)) (last_place v slots))
              (of-is v s.item ∙ ne-eqb (loader_in s.item) v (λ same. n (sym same)))
              ∙ ap (λ (b : Bool). cond b (Some (length slots)) (last_place v slots))
              (and-false s.live)
  places-push slots s (l ∷ ls) (suc i) d live h lt e =
      ap (λ (o : Option ℕ). o ∷ set (last_places slots (numbers_of_loaders ls)) i
      (Some (length slots)))
      (sym (before-push slots s l.number
      (λ same. omega (arith, number-behind ls i d l h.0 (omega arith), same, e))))
      ∙ ap (λ (os : List (Option ℕ)). last_place l.number (slots ++ s ∷ []) ∷ os)
      (places-push slots s ls i d live h.1 (omega arith) e)
    where
      before-push : (slots : List (BookSlot (Row P))) (s : BookSlot (Row P)) (v : ℕ)
          → ¬ (v ≡ loader_in s.item)
          → last_place v (slots ++ s ∷ []) ≡ last_place v slots
      before-push slots s v n =
          place-push v slots s ∙ ap
          (λ (b : Bool). cond (s.live && b) (Some (length slots)) (last_place v slots))
          (of-is v s.item ∙ ne-eqb (loader_in s.item) v (λ same. n (sym same)))
          ∙ ap (λ (b : Bool). cond b (Some (length slots)) (last_place v slots)) (and-false s.live)

  -- no row of an unloaded loader lives
  place-unloaded : (u : ℕ) (slots : List (BookSlot (Row P)))
      → last_place u (map (unloaded u) slots) ≡ None
  place-unloaded u [] = refl
  place-unloaded u (s ∷ slots) =
      ap (λ (o : Option ℕ). place_behind o (mine u (unloaded u s))) (place-unloaded u slots)
      ∙ ap (λ (b : Bool). cond b (Some 0) None) (by_tests s.live (is_of u s.item))
    where
      by_tests : (a b : Bool) → ((a && not b) && b) ≡ false
      by_tests true true = refl
      by_tests true false = refl
      by_tests false b = refl

  -- the last places without a loader
  pub places-unloaded : (u : ℕ) (slots : List (BookSlot (Row P))) (ls : List LiveLoader) (i : ℕ)
      (d : LiveLoader)
      → Pairwise Below ls → i < length ls → (get_or ls i d).number ≡ u
      → set (last_places slots (numbers_of_loaders ls)) i None
      ≡ last_places (map (unloaded u) slots) (numbers_of_loaders ls)
  places-unloaded u slots [] i d h lt e = absurd (omega arith)
  places-unloaded u slots (l ∷ ls) zero d h lt e =
      ap (λ (o : Option ℕ). o ∷ last_places slots (numbers_of_loaders ls))
      (sym (ap (λ (v : ℕ). last_place v (map (unloaded u) slots)) e ∙ place-unloaded u slots))
      ∙ ap (λ (os : List (Option ℕ)). last_place l.number (map (unloaded u) slots) ∷ os)
      (rest u slots ls (above ls l.number u e h.0))
    where
      above : (ls : List LiveLoader) (n u : ℕ) → n ≡ u → AllByRecursion (λ m. n < m.number) ls
          → AllByRecursion (λ m. u < m.number) ls
      above [] n u e h = tt
      above (m ∷ ls) n u e h = (omega (arith, h.0), above ls n u e h.1)

      rest : (u : ℕ) (slots : List (BookSlot (Row P))) (ls : List LiveLoader)
          → AllByRecursion (λ m. u < m.number) ls
          → last_places slots (numbers_of_loaders ls)
          ≡ last_places (map (unloaded u) slots) (numbers_of_loaders ls)
      rest u slots [] h = refl
      rest u slots (m ∷ ls) h =
          ap (λ (o : Option ℕ). o ∷ last_places slots (numbers_of_loaders ls))
          (sym (place-of_other u m.number slots (λ same. omega (arith, h.0, same))))
          ∙ ap (λ (os : List (Option ℕ)). last_place m.number (map (unloaded u) slots) ∷ os)
          (rest u slots ls h.1)
  places-unloaded u slots (l ∷ ls) (suc i) d h lt e =
      ap (λ (o : Option ℕ). o ∷ set (last_places slots (numbers_of_loaders ls)) i None)
      (sym (place-of_other u l.number slots
      (λ same. omega (arith, number-behind ls i d l h.0 (omega arith), e, same))))
      ∙ ap (λ (os : List (Option ℕ)). last_place l.number (map (unloaded u) slots) ∷ os)
      (places-unloaded u slots ls i d h.1 (omega arith) e)

  -- the last places of the first loaders
  pub places-take : (slots : List (BookSlot (Row P))) (n : ℕ) (ls : List LiveLoader)
      → take n (last_places slots (numbers_of_loaders ls))
      ≡ last_places slots (numbers_of_loaders (take n ls))
  places-take slots zero ls = refl
  places-take slots (suc n) [] = refl
  places-take slots (suc n) (l ∷ ls) =
      ap (λ (os : List (Option ℕ)). last_place l.number slots ∷ os) (places-take slots n ls)

  -- `newest` has a loader's last place
  pub places-at : (slots : List (BookSlot (Row P))) (ls : List LiveLoader) (i : ℕ) (d : LiveLoader)
      (o : Option ℕ)
      → i < length ls → get_or (last_places slots (numbers_of_loaders ls)) i o
      ≡ last_place (get_or ls i d).number slots
  places-at slots [] i d o lt = absurd (omega arith)
  places-at slots (l ∷ ls) zero d o lt = refl
  places-at slots (l ∷ ls) (suc i) d o lt = places-at slots ls i d o (omega arith)

-- ---- an unloaded place

module _ {P : Type 0} where
  pub unloaded-ended : (u : ℕ) (slots : List (BookSlot (Row P))) (i : ℕ) (s : BookSlot (Row P))
      → slice_get slots i ≡ Some s → is_of u s.item ≡ true
      → map (unloaded u) (set slots i (ended s)) ≡ map (unloaded u) slots
  unloaded-ended u [] i s there own = refl
  unloaded-ended u (z ∷ slots) zero s there own =
      let is : z ≡ s = cc in
      ap (λ (t : BookSlot (Row P)). record { item = t.item; live = false } ∷ map (unloaded u) slots)
      (sym is)
      ∙ ap (λ (b : Bool). record { item = z.item; live = b } ∷ map (unloaded u) slots)
      (sym (ap (λ (b : Bool). z.live && not b) (ap (λ (t : BookSlot (Row P)). is_of u t.item) is
      ∙ own) ∙ and-false z.live))
  unloaded-ended u (z ∷ slots) (suc i) s there own =
      ap (λ l. unloaded u z ∷ l) (unloaded-ended u slots i s there own)

-- no loader has a place if there are no rows
pub places-none : (P : Type 0) (ls : List (BookSlot LiveLoader))
    → map (λ l. None) ls ≡ last_places {P = P} [] (numbers_of_loaders (items ls))
places-none P [] = refl
places-none P (l ∷ ls) = ap (λ (os : List (Option ℕ)). None ∷ os) (places-none P ls)

none-suc : {X : Type 0} (ls : List X) (i : ℕ) → i < length ls
    → map {B = Option ℕ} (λ l. None) (take (suc i) ls) ≡ map (λ l. None) (take i ls) ++ None ∷ []
none-suc [] i lt = absurd (omega arith)
none-suc (l ∷ ls) zero lt = refl
none-suc (l ∷ ls) (suc i) lt =
    ap (λ (os : List (Option ℕ)). None ∷ os) (none-suc ls i (omega arith))

pub none-more : {X : Type 0} (ls : List X) (i : ℕ) → i < length ls
    → map {B = Option ℕ} (λ l. None) (take (i + 1) ls) ≡ map (λ l. None) (take i ls) ++ None ∷ []
none-more ls i lt =
    ap (λ (n : ℕ). map {B = Option ℕ} (λ l. None) (take n ls)) (add-one i) ∙ none-suc ls i lt

module _ {P : Type 0} where
  -- what holds for live rows holds at each place if all live
  pub all-living : (Q : Row P → Type 0) (slots : List (BookSlot (Row P))) (i : ℕ)
      (d : BookSlot (Row P))
      → AllByRecursion Q (living slots) → AllByRecursion (λ s. s.live ≡ true) slots
      → i < length slots
      → Q (get_or slots i d).item × ((get_or slots i d).live ≡ true)
  all-living Q [] i d h live lt = absurd (omega arith)
  all-living Q (s ∷ slots) i d h live lt =
      by_place (subst (λ (t : Bool). AllByRecursion Q
      (cond t (s.item ∷ living slots) (living slots))) live.0 h) i lt
      (λ k in_rest rest. all-living Q slots k d rest live.1 in_rest)
    where
      by_place : AllByRecursion Q (s.item ∷ living slots) → (i : ℕ) → i < suc (length slots)
          → ((k : ℕ) → k < length slots → AllByRecursion Q (living slots)
          → Q (get_or slots k d).item × ((get_or slots k d).live ≡ true))
          → Q (get_or (s ∷ slots) i d).item × ((get_or (s ∷ slots) i d).live ≡ true)
      by_place q zero lt behind = (q.0, live.0)
      by_place q (suc k) lt behind = behind k (omega arith) q.1

-- ---- a loader that is new

module _ {P : Type 0} where
  pub all-owned : (rows : List (Row P)) (ns : List ℕ)
      → ((r : ClassRow) → Among r (classes_in rows) → Among r.loader ns)
      → ((n : ℕ) → Among n (numbers_in rows) → Among n ns)
      → AllByRecursion (λ row. Among (loader_in row) ns) rows
  all-owned [] ns owned own = tt
  all-owned (Loader r ∷ rows) ns owned own =
      (own r.number (inl refl), all-owned rows ns owned (λ n m. own n (inr m)))
  all-owned (Class r p ∷ rows) ns owned own =
      (owned r (inl refl), all-owned rows ns (λ s m. owned s (inr m)) own)

  pub all-fresh : (rows : List (Row P)) (ns : List ℕ) (v : ℕ)
      → AllByRecursion (λ row. Among (loader_in row) ns) rows
      → AllByRecursion (λ n. n < v) ns → AllByRecursion (λ row. is_of v row ≡ false) rows
  all-fresh [] ns v owned above = tt
  all-fresh (row ∷ rows) ns v owned above =
      let less = each-among (λ n. n < v) ns (loader_in row) above owned.0 in (
        of-is v row ∙ ne-eqb (loader_in row) v (λ e. omega (arith, less, e)),
        all-fresh rows ns v owned.1 above,
      )

  pub places-new : (slots : List (BookSlot (Row P))) (s : BookSlot (Row P)) (ns : List ℕ) (v : ℕ)
      → s.live ≡ true → v ≡ loader_in s.item
      → AllByRecursion (λ n. n < v) ns
      → last_places slots ns ++ Some (length slots) ∷ []
      ≡ last_places (slots ++ s ∷ []) (ns ++ v ∷ [])
  places-new slots s [] v live e above =
      let sure : mine v s ≡ true = ap (λ (b : Bool). b && is_of v s.item) live
      ∙ ap (λ (u : ℕ). is_of u s.item) e ∙ of-itself s.item in
      ap (λ (o : Option ℕ). o ∷ [])
      (sym (place-push v slots s
      ∙ ap (λ (b : Bool). cond b (Some (length slots)) (last_place v slots)) sure))
  places-new slots s (n ∷ ns) v live e above =
      let other : mine n s ≡ false =
      ap (λ (b : Bool). s.live && b)
      (of-is n s.item ∙ ne-eqb (loader_in s.item) n (λ same. omega (arith, above.0, e, same)))
      ∙ and-false s.live in
      ap (λ (o : Option ℕ). o ∷ (last_places slots ns ++ Some (length slots) ∷ []))
      (sym (place-push n slots s
      ∙ ap (λ (b : Bool). cond b (Some (length slots)) (last_place n slots)) other))
      ∙ ap (λ (os : List (Option ℕ)). last_place n (slots ++ s ∷ []) ∷ os)
      (places-new slots s ns v live e above.1)
