-- Following a loader's rows from the last one on, to put those on one chunk on another.
-- For `LiveRows::apply_move`, `move_rows`.
use Rattle.std.proofs.Common.{◌≡◌, ℕ, zero, suc, ◌+◌, ◌≤◌, Bool, true, false, cond, List, [], ◌∷◌}
use Rattle.std.proofs.Common.{◌++◌, map, length, take, drop, set, get_or, Option, Some, None, refl}
use Rattle.std.proofs.Common.{sym, ◌∙◌, ap, ap₂, subst, arith, take-append-drop, inl, inr}
use Rattle.std.specs.Prelude.{◌&&◌}
use Rattle.std.specs.List.{slice_get}
use Rattle.std.proofs.lemmas.Bool.{eqb-true, eq-eqb}
use Rattle.std.proofs.lemmas.List.{take_all, drop_all, map-append}
use Rattle.std.proofs.lemmas.Option.{slice_get_within}
use Rattle.cm_pool.specs.declared.chunk.Chunk.{Chunk}
use Rattle.cm_pool.specs.Chunks.{same_chunk}
use Rattle.cm_pool.specs.Lists.{Among}
use Rattle.cm_pool.proofs.{same_chunk-true}
use Rattle.cm_layout.specs.declared.class_row.ClassRow.{ClassRow}
use Rattle.cm_layout.specs.declared.row.Row.{Row}
use Rattle.cm_layout.specs.declared.row.Row.TheVariants.{Loader, Class}
use Rattle.cm_layout.specs.Rows.{is_of, moved_row, classes_in}
use Rattle.cm_index.specs.declared.slot.BookSlot.{BookSlot}
use Rattle.cm_index.specs.Living.{living, moved_slot}
use Rattle.cm_rows.specs.Held.{AreFounded}
use Rattle.cm_rows.specs.Links.{loader_in, place_behind, last_place, AreLinked, OthersStay}
use Rattle.cm_rows.proofs.Linking.{stands-last, of-is, get-take, take-few, take-set_before}

-- ---- lists

pub take-short : {X : Type 0} (xs : List X) (i k : ℕ) → i ≤ k → take i (take k xs) ≡ take i xs
take-short xs zero k le = refl
take-short [] (suc i) zero le = refl
take-short [] (suc i) (suc k) le = refl
take-short (x ∷ xs) (suc i) zero le = absurd (omega arith)
take-short (x ∷ xs) (suc i) (suc k) le = ap (λ l. x ∷ l) (take-short xs i k (omega arith))

get-drop : {X : Type 0} (xs : List X) (n j : ℕ) → slice_get (drop n xs) j ≡ slice_get xs (n + j)
get-drop xs zero j = let same : j ≡ 0 + j = omega arith in ap (slice_get xs) same
get-drop [] (suc n) j = refl
get-drop (x ∷ xs) (suc n) j =
    let more : suc (n + j) ≡ suc n + j = omega arith in
    get-drop xs n j ∙ ap (slice_get (x ∷ xs)) more

-- what follows a place, in two parts
parted : {X : Type 0} (xs : List X) (j k : ℕ) → j ≤ k → drop j xs ≡ drop j (take k xs) ++ drop k xs
parted xs zero k le = sym (take-append-drop k xs)
parted [] (suc j) zero le = absurd (omega arith)
parted [] (suc j) (suc k) le = refl
parted (x ∷ xs) (suc j) zero le = absurd (omega arith)
parted (x ∷ xs) (suc j) (suc k) le = parted xs j k (omega arith)

drop-at : {X : Type 0} (xs : List X) (i : ℕ) (s : X) → slice_get xs i ≡ Some s
    → drop i xs ≡ s ∷ drop (suc i) xs
drop-at [] i s h = absurd (cc)
drop-at (x ∷ xs) zero s h = let is : x ≡ s = cc in ap (λ y. y ∷ xs) is
drop-at (x ∷ xs) (suc i) s h = drop-at xs i s h

drop-set : {X : Type 0} (xs : List X) (i : ℕ) (s y : X) → slice_get xs i ≡ Some s
    → drop i (set xs i y) ≡ y ∷ drop (suc i) xs
drop-set [] i s y h = absurd (cc)
drop-set (x ∷ xs) zero s y h = refl
drop-set (x ∷ xs) (suc i) s y h = drop-set xs i s y h

-- ---- rows that stay

module _ {P : Type 0} where
  others-behind : (u : ℕ) (from to : Chunk) (s : BookSlot (Row P)) (slots : List (BookSlot (Row P)))
      → OthersStay u from to (s ∷ slots) → OthersStay u from to slots
  others-behind u from to s slots h =
      record { each = λ i r there live other. h.each (suc i) r there live other }

  others-between : (u : ℕ) (from to : Chunk) (slots : List (BookSlot (Row P))) (n k : ℕ)
      → OthersStay u from to slots → OthersStay u from to (drop n (take k slots))
  others-between u from to slots n k h =
      record {
        each = λ i r there live other.
            h.each (n + i) r (get-take slots (n + i) k r
            (sym (get-drop (take k slots) n i) ∙ there))
            live other;
      }

  -- a loader without a place has no row to move
  none-moves : (u : ℕ) (from to : Chunk) (slots : List (BookSlot (Row P)))
      → OthersStay u from to slots
      → last_place u slots ≡ None → map (moved_slot from to) slots ≡ slots
  none-moves u from to [] h none = refl
  none-moves u from to (s ∷ slots) h none =
      by_place (none-moves u from to slots (others-behind u from to s slots h)) (last_place u slots)
      refl s.live refl (is_of u s.item) refl none
    where
      by_place : (last_place u slots ≡ None → map (moved_slot from to) slots ≡ slots)
          → (o : Option ℕ) → last_place u slots ≡ o → (t : Bool) → s.live ≡ t → (b : Bool)
          → is_of u s.item ≡ b
          → place_behind o (s.live && is_of u s.item) ≡ None → map (moved_slot from to) (s ∷ slots)
          ≡ s ∷ slots
      by_place behind (Some i) is t live b own none = absurd (cc)
      by_place behind None is true live true own none =
          absurd (let test : place_behind None (true && true)
          ≡ None = subst (λ (c : Bool). place_behind None (c && true) ≡ None) live
          (subst (λ (c : Bool). place_behind None (s.live && c) ≡ None) own none) in cc)
      by_place behind None is true live false own none =
          ap₂ (λ (x : BookSlot (Row P)) (l : List (BookSlot (Row P))). x ∷ l)
          (ap (λ (c : Bool). record {
            item = cond c (moved_row from to s.item) s.item;
            live = s.live;
          }) live
          ∙ ap (λ (r : Row P). record { item = r; live = s.live }) (h.each 0 s refl live own))
          (behind is)
      by_place behind None is false live b own none =
          ap₂ (λ (x : BookSlot (Row P)) (l : List (BookSlot (Row P))). x ∷ l)
          (ap (λ (c : Bool). record {
            item = cond c (moved_row from to s.item) s.item;
            live = s.live;
          }) live) (behind is)

  -- after its last place a loader has no row
  pub none-after : (u : ℕ) (slots : List (BookSlot (Row P))) (i : ℕ) → last_place u slots ≡ Some i
      → last_place u (drop (suc i) slots) ≡ None
  none-after u [] i h = absurd (cc)
  none-after u (s ∷ slots) i h =
      by_place (none-after u slots) (last_place u slots) refl (s.live && is_of u s.item) i h
    where
      by_place : ((i : ℕ) → last_place u slots ≡ Some i → last_place u (drop (suc i) slots) ≡ None)
          → (o : Option ℕ) → last_place u slots ≡ o → (t : Bool) → (i : ℕ)
          → place_behind o t ≡ Some i
          → last_place u (drop i slots) ≡ None
      by_place behind None is true zero h = is
      by_place behind None is true (suc i) h = absurd (cc)
      by_place behind None is false i h = absurd (cc)
      by_place behind (Some j) is t zero h = absurd (cc)
      by_place behind (Some j) is t (suc i) h = let same : j ≡ i =
          cc in behind i (is ∙ ap Some same)

-- ---- the walk

module _ {P : Type 0} where
  -- the rows from a place on have moved, and the loader's last one before it is next
  pub record MovesOn (u : ℕ) (from to : Chunk) (old slots : List (BookSlot (Row P)))
      (next : Option ℕ) : Type 0 where
    pub k : ℕ
    pub front : take k slots ≡ take k old
    pub behind : drop k slots ≡ map (moved_slot from to) (drop k old)
    pub next_is : next ≡ last_place u (take k old)

  pub walk-begins : (u : ℕ) (from to : Chunk) (slots : List (BookSlot (Row P))) (next : Option ℕ)
      → next ≡ last_place u slots → MovesOn u from to slots slots next
  walk-begins u from to slots next is =
      let none : drop (length slots) slots ≡ [] = drop_all (length slots) slots (omega arith) in
      record {
        k = length slots;
        front = refl;
        behind = none ∙ sym (ap (map (moved_slot from to)) none);
        next_is = is ∙ sym (ap (last_place u) (take_all (length slots) slots (omega arith)));
      }

  -- the row that comes next
  pub record ComesTo (u : ℕ) (old slots : List (BookSlot (Row P))) (i : ℕ) : Type 0 where
    pub slot : BookSlot (Row P)
    pub was : slice_get old i ≡ Some slot
    pub there : slice_get slots i ≡ Some slot
    pub lives : slot.live ≡ true
    pub own : is_of u slot.item ≡ true

  pub comes-to : (u : ℕ) (from to : Chunk) (old slots : List (BookSlot (Row P))) (i : ℕ)
      → MovesOn u from to old slots (Some i) → ComesTo u old slots i
  comes-to u from to old slots i m =
      let at = stands-last u (take m.k old) i (sym m.next_is) in
      record {
        slot = at.slot;
        was = get-take old i m.k at.slot at.there;
        there = get-take slots i m.k at.slot
            (ap (λ (l : List (BookSlot (Row P))). slice_get l i) m.front ∙ at.there);
        lives = at.lives;
        own = at.own;
      }

  pub next-before : (u : ℕ) (from to : Chunk) (old slots : List (BookSlot (Row P)))
      (before : List (Option ℕ)) (i : ℕ)
      → AreLinked old before → MovesOn u from to old slots (Some i)
      → get_or before i None ≡ last_place u (take i old)
  next-before u from to old slots before i h m =
      let c = comes-to u from to old slots i m in
      let loader : loader_in c.slot.item ≡ u =
      eqb-true (loader_in c.slot.item) u (sym (of-is u c.slot.item) ∙ c.own) in
      h.each i c.slot c.was c.lives ∙ ap (λ (v : ℕ). last_place v (take i old)) loader

  pub walk-goes_on : (u : ℕ) (from to : Chunk) (old slots : List (BookSlot (Row P)))
      (before : List (Option ℕ)) (i : ℕ) (x : BookSlot (Row P))
      → AreLinked old before → OthersStay u from to old → (m : MovesOn u from to old slots (Some i))
      → x ≡ moved_slot from to (comes-to u from to old slots i m).slot
      → MovesOn u from to old (set slots i x) (get_or before i None)
  walk-goes_on u from to old slots before i x linked others m is =
      let f : BookSlot (Row P) → BookSlot (Row P) = moved_slot from to in
      let k = m.k in
      let c = comes-to u from to old slots i m in
      let at = stands-last u (take k old) i (sym m.next_is) in
      let lt = slice_get_within (take k old) i at.slot at.there in
      let within : suc i ≤ k = omega (arith, lt, take-few k old) in
      let between = drop (suc i) (take k old) in
      let still : map f between ≡ between =
      none-moves u from to between (others-between u from to old (suc i) k others)
      (none-after u (take k old) i (sym m.next_is)) in
      let rest : drop (suc i) slots ≡ map f (drop (suc i) old) =
      parted slots (suc i) k within
      ∙ ap₂ (λ (a b : List (BookSlot (Row P))). a ++ b) (ap (drop (suc i)) m.front
      ∙ sym still) m.behind
      ∙ sym (map-append f between (drop k old))
      ∙ ap (map f) (sym (parted old (suc i) k within)) in
      record {
        k = i;
        front = take-set_before slots i i x (omega arith)
            ∙ sym (take-short slots i k (omega (arith, within))) ∙ ap (take i) m.front
            ∙ take-short old i k (omega (arith, within));
        behind = drop-set slots i c.slot x c.there
            ∙ ap₂ (λ (y : BookSlot (Row P)) (l : List (BookSlot (Row P))). y ∷ l) is rest
            ∙ sym (ap (map f) (drop-at old i c.slot c.was));
        next_is = next-before u from to old slots before i linked m;
      }

  pub walk-ends : (u : ℕ) (from to : Chunk) (old slots : List (BookSlot (Row P)))
      → OthersStay u from to old
      → MovesOn u from to old slots None → slots ≡ map (moved_slot from to) old
  walk-ends u from to old slots others m =
      let f : BookSlot (Row P) → BookSlot (Row P) = moved_slot from to in
      let still : map f (take m.k old) ≡ take m.k old =
      none-moves u from to (take m.k old) (others-between u from to old 0 m.k others)
      (sym m.next_is) in
      sym (take-append-drop m.k slots)
      ∙ ap₂ (λ (a b : List (BookSlot (Row P))). a ++ b) (m.front ∙ sym still) m.behind
      ∙ sym (map-append f (take m.k old) (drop m.k old))
      ∙ ap (map f) (take-append-drop m.k old)

-- ---- no chunk has two loaders

module _ {P : Type 0} where
  among-behind : (r : ClassRow) (row : Row P) (rows : List (Row P)) → Among r (classes_in rows)
      → Among r (classes_in (row ∷ rows))
  among-behind r (Loader l) rows m = m
  among-behind r (Class q p) rows m = inr m

  class-there : (slots : List (BookSlot (Row P))) (i : ℕ) (s : BookSlot (Row P)) (r : ClassRow)
      (p : P)
      → slice_get slots i ≡ Some s → s.live ≡ true → s.item ≡ Class r p
      → Among r (classes_in (living slots))
  class-there [] i s r p there live is = absurd (cc)
  class-there (z ∷ slots) zero s r p there live is =
      let same : z ≡ s = cc in
      let first : living (z ∷ slots) ≡ Class r p ∷ living slots =
      ap (λ (b : Bool). cond b (z.item ∷ living slots) (living slots))
      (ap (λ (t : BookSlot (Row P)). t.live) same ∙ live)
      ∙ ap (λ (x : Row P). x ∷ living slots) (ap (λ (t : BookSlot (Row P)). t.item) same ∙ is) in
      subst (λ (rows : List (Row P)). Among r (classes_in rows)) (sym first) (inl refl)
  class-there (z ∷ slots) (suc i) s r p there live is =
      by_test z.live (class-there slots i s r p there live is)
    where
      by_test : (t : Bool) → Among r (classes_in (living slots))
          → Among r (classes_in (cond t (z.item ∷ living slots) (living slots)))
      by_test true m = among-behind r z.item (living slots) m
      by_test false m = m

  pub others-stay : (u : ℕ) (from to : Chunk) (slots : List (BookSlot (Row P))) (s : ClassRow)
      → AreFounded (classes_in (living slots)) → Among s (classes_in (living slots)) → s.loader ≡ u
      → s.place.chunk ≡ from → OthersStay u from to slots
  others-stay u from to slots s h m own on =
      record { each = λ i r there live other. by_row i r there live r.item refl other }
    where
      by_row : (i : ℕ) (r : BookSlot (Row P)) → slice_get slots i ≡ Some r → r.live ≡ true
          → (row : Row P) → r.item ≡ row
          → is_of u r.item ≡ false → moved_row from to r.item ≡ r.item
      by_row i r there live (Loader l) is other =
          subst (λ (x : Row P). moved_row from to x ≡ x) (sym is) refl
      by_row i r there live (Class q p) is other =
          subst (λ (x : Row P). moved_row from to x ≡ x) (sym is)
          (by_test (same_chunk q.place.chunk from) refl)
        where
          by_test : (t : Bool) → same_chunk q.place.chunk from ≡ t
              → cond t (Class (record q { place = record q.place { chunk = to } }) p) (Class q p)
              ≡ Class q p
          by_test false e = refl
          by_test true e =
              let same : q.place.chunk ≡ s.place.chunk =
              same_chunk-true q.place.chunk from e ∙ sym on in
              let mine : q.loader ≡ u =
              h.owner q s (class-there slots i r q p there live is) m same ∙ own in
              let sure : is_of u r.item ≡ true = ap (is_of u) is ∙ eq-eqb q.loader u mine in
              absurd (let both : true ≡ false = sym sure ∙ other in cc)
