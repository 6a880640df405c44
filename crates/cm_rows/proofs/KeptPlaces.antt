-- Loaders that keep their places: which of them live, where one is among those, and what stays once
-- the dead ones at the end are removed.
-- For `LiveRows+unit::copy_from`, `LiveRows::add_loader`, `LiveRows::define` and others.
use Rattle.std.proofs.Common.{◌≡◌, ◌≢◌, ℕ, zero, suc, ◌+◌, ◌<◌, ◌≤◌, ◌⊎◌, Bool, true, false, cond}
use Rattle.std.proofs.Common.{List, [], ◌∷◌, ◌++◌, length, take, drop, get_or, set, Option, None}
use Rattle.std.proofs.Common.{Result, Ok, Err, IfSome, inl, inr, refl, sym, ◌∙◌, ap, subst, arith}
use Rattle.std.specs.Prelude.{nat_lt, ◌&&◌}
use Rattle.std.specs.Ordering.{nat_cmp, ordering_index}
use Rattle.std.specs.Result.{result_ok}
use Rattle.std.specs.List.{remove, list_all, AllByRecursion}
use Rattle.std.specs.List.Sorted.{IsSearchInRange, IsBinarySearchResult, IsNonDecreasingBy}
use Rattle.std.proofs.lemmas.Bool.{cases_lt, ltb-true, lt-ltb}
use Rattle.std.proofs.lemmas.Bool.Decides.{nat_tests}
use Rattle.std.proofs.lemmas.Cmp.{ranked}
use Rattle.std.proofs.lemmas.List.{length-map, take-append-drop, get_or-take, take_more}
use Rattle.std.proofs.Common.{length-append, IfNone, IsSome, Some}
use Rattle.std.proofs.Math.Seq.{get_or-append_seam}
use Rattle.cm_pool.specs.Lists.{Among, Pairwise}
use Rattle.cm_index.specs.declared.slot.BookSlot.{BookSlot}
use Rattle.cm_index.specs.Living.{living, swept}
use Rattle.cm_index.specs.Index.{LivesAt}
use Rattle.cm_index.proofs.{living-append, length-swept}
use Rattle.cm_rows.specs.declared.live_loader.LiveLoader.{LiveLoader}
use Rattle.cm_rows.specs.Loaders.{numbers_of_loaders, Rises, LoaderIsAt, IsAbsent, items}
use Rattle.cm_rows.specs.Loaders.{LoaderLivesAt}
use Rattle.cm_rows.proofs.Loaders.{rises-at, at-among, absent-among}

-- ---- any places

module _ {X : Type 0} where
  pub get-items : (slots : List (BookSlot X)) (i : ℕ) (d : BookSlot X)
      → (get_or slots i d).item ≡ get_or (items slots) i d.item
  get-items [] i d = refl
  get-items (s ∷ slots) zero d = refl
  get-items (s ∷ slots) (suc i) d = get-items slots i d

  pub same-default : (xs : List X) (i : ℕ) (d e : X) → i < length xs → get_or xs i d ≡ get_or xs i e
  same-default [] i d e h = absurd (omega arith)
  same-default (x ∷ xs) zero d e h = refl
  same-default (x ∷ xs) (suc i) d e h = same-default xs i d e (omega arith)

  pub items-set : (slots : List (BookSlot X)) (i : ℕ) (s : BookSlot X)
      → items (set slots i s) ≡ set (items slots) i s.item
  items-set [] i s = refl
  items-set (t ∷ slots) zero s = refl
  items-set (t ∷ slots) (suc i) s = ap (λ l. t.item ∷ l) (items-set slots i s)

  pub items-push : (slots : List (BookSlot X)) (s : BookSlot X) → items (slots ++ s ∷ [])
      ≡ items slots
      ++ s.item ∷ []
  items-push [] s = refl
  items-push (t ∷ slots) s = ap (λ l. t.item ∷ l) (items-push slots s)

  pub items-take : (n : ℕ) (slots : List (BookSlot X)) → items (take n slots) ≡ take n (items slots)
  items-take zero slots = refl
  items-take (suc n) [] = refl
  items-take (suc n) (s ∷ slots) = ap (λ l. s.item ∷ l) (items-take n slots)

  pub items-swept : (slots : List (BookSlot X)) → items (swept slots) ≡ living slots
  items-swept [] = refl
  items-swept (s ∷ slots) = by_test s.live (items-swept slots)
    where
      by_test : (t : Bool) → items (swept slots) ≡ living slots
          → items (cond t (s ∷ swept slots) (swept slots))
          ≡ cond t (s.item ∷ living slots) (living slots)
      by_test true behind = ap (λ l. s.item ∷ l) behind
      by_test false behind = behind

  -- what holds for all holds for those that live
  pub all-kept : (P : X → Type 0) (slots : List (BookSlot X)) → AllByRecursion P (items slots)
      → AllByRecursion P (living slots)
  all-kept P [] h = tt
  all-kept P (s ∷ slots) h = by_test s.live (all-kept P slots h.1)
    where
      by_test : (t : Bool) → AllByRecursion P (living slots)
          → AllByRecursion P (cond t (s.item ∷ living slots) (living slots))
      by_test true behind = (h.0, behind)
      by_test false behind = behind

  none-living : (slots : List (BookSlot X)) → AllByRecursion (λ s. s.live ≡ false) slots
      → living slots ≡ []
  none-living [] h = refl
  none-living (s ∷ slots) h =
      ap (λ (t : Bool). cond t (s.item ∷ living slots) (living slots)) h.0 ∙ none-living slots h.1

  -- one more live item
  pub swept-more : (slots : List (BookSlot X)) (i : ℕ) (d : BookSlot X) → i < length slots
      → swept (take (i + 1) slots) ≡ swept (take i slots) ++ swept (get_or slots i d ∷ [])
  swept-more slots i d lt =
      ap swept (take_more slots i d lt) ∙ swept-append (take i slots) (get_or slots i d ∷ [])
    where
      swept-append : (xs ys : List (BookSlot X)) → swept (xs ++ ys) ≡ swept xs ++ swept ys
      swept-append [] ys = refl
      swept-append (t ∷ xs) ys = by_test t.live (swept-append xs ys)
        where
          by_test : (b : Bool) → swept (xs ++ ys) ≡ swept xs ++ swept ys
              → cond b (t ∷ swept (xs ++ ys)) (swept (xs ++ ys)) ≡ cond b (t ∷ swept xs) (swept xs)
              ++ swept ys
          by_test true behind = ap (λ l. t ∷ l) behind
          by_test false behind = behind

  -- there is room for one more live item
  room-for : (slots : List (BookSlot X)) (i : ℕ) (d : BookSlot X) → i < length slots
      → length (swept (take i slots)) + length (living (get_or slots i d ∷ []))
      ≤ length (living slots)
  room-for slots i d lt =
      omega (
        arith,
        few (i + 1) slots,
        ap length (swept-more slots i d lt),
        length-append (swept (take i slots)) (swept (get_or slots i d ∷ [])),
        length-swept (get_or slots i d ∷ []),
        length-swept slots,
      )
    where
      few : (n : ℕ) (slots : List (BookSlot X))
          → length (swept (take n slots)) ≤ length (swept slots)
      few zero slots = omega arith
      few (suc n) [] = omega arith
      few (suc n) (t ∷ slots) = by_test t.live (few n slots)
        where
          by_test : (b : Bool) → length (swept (take n slots)) ≤ length (swept slots)
              → length (cond b (t ∷ swept (take n slots)) (swept (take n slots)))
              ≤ length (cond b (t ∷ swept slots) (swept slots))
          by_test true behind = omega (arith, behind)
          by_test false behind = omega (arith, behind)

  pub room-there : (slots : List (BookSlot X)) (i n capacity : ℕ) (d : BookSlot X)
      → i < length slots
      → n ≡ length (swept (take i slots)) → length (living slots) ≤ capacity
      → n + length (living (get_or slots i d ∷ [])) ≤ capacity
  room-there slots i n capacity d lt same le = let few = room-for slots i d lt in
      omega (arith, few, same, le)

  -- after an end nothing lives
  pub living-end : (slots : List (BookSlot X)) (n : ℕ)
      → AllByRecursion (λ s. s.live ≡ false) (drop n slots)
      → living (take n slots) ≡ living slots
  living-end slots n h =
      nothing (living (take n slots)) (living (drop n slots)) (none-living (drop n slots) h)
      ∙ sym (living-append (take n slots) (drop n slots)) ∙ ap living (take-append-drop n slots)
    where
      nothing : (xs ys : List X) → ys ≡ [] → xs ≡ xs ++ ys
      nothing [] ys e = sym e
      nothing (x ∷ xs) ys e = ap (λ l. x ∷ l) (nothing xs ys e)

  -- if all live, each does
  pub each-lives : {slots : List (BookSlot X)} (k : ℕ) → AllByRecursion (λ s. s.live ≡ true) slots
      → k < length slots
      → LivesAt slots k
  each-lives {slots} k h lt = record { is = by_place slots k h lt }
    where
      by_place : (slots : List (BookSlot X)) (k : ℕ) → AllByRecursion (λ s. s.live ≡ true) slots
          → k < length slots
          → (d : BookSlot X) → (get_or slots k d).live ≡ true
      by_place [] k h lt d = absurd (omega arith)
      by_place (s ∷ slots) zero h lt d = h.0
      by_place (s ∷ slots) (suc k) h lt d = by_place slots k h.1 (omega arith) d

  -- the last one lives, after a live one is appended
  pub lives-push : (slots : List (BookSlot X)) (s : BookSlot X) (k : ℕ) → s.live ≡ true
      → length (slots ++ s ∷ []) ≡ k + 1
      → LivesAt (slots ++ s ∷ []) k
  lives-push slots s k live e =
      let at : k ≡ length slots = omega (arith, e, length-append slots (s ∷ [])) in
      record {
        is = λ d. ap (λ (j : ℕ). (get_or (slots ++ s ∷ []) j d).live) at
            ∙ ap (λ (t : BookSlot X). t.live) (get_or-append_seam slots s [] d) ∙ live;
      }

  -- the last one lives, after one is replaced by a live one
  pub lives-set : (slots : List (BookSlot X)) (i : ℕ) (s : BookSlot X) (k : ℕ) → s.live ≡ true
      → k < length slots
      → LivesAt slots k → LivesAt (set slots i s) k
  lives-set slots i s k live lt h = record { is = by_place slots i k lt h.is }
    where
      by_place : (slots : List (BookSlot X)) (i k : ℕ) → k < length slots
          → ((d : BookSlot X) → (get_or slots k d).live ≡ true)
          → (d : BookSlot X) → (get_or (set slots i s) k d).live ≡ true
      by_place [] i k lt h d = absurd (omega arith)
      by_place (t ∷ slots) zero zero lt h d = live
      by_place (t ∷ slots) zero (suc k) lt h d = h d
      by_place (t ∷ slots) (suc i) zero lt h d = h d
      by_place (t ∷ slots) (suc i) (suc k) lt h d = by_place slots i k (omega arith) h d

  -- the last one lives, after those following it are removed
  pub lives-take : (slots : List (BookSlot X)) (n k : ℕ) → n ≡ k + 1 → n ≤ length slots
      → LivesAt slots k
      → LivesAt (take n slots) k
  lives-take slots n k e le h =
      record {
        is = λ d. ap (λ (t : BookSlot X). t.live) (get_or-take n slots k d (omega (arith, e)))
            ∙ h.is d;
      }

  -- where a live one is among those that live
  pub record StandsAmong (slots : List (BookSlot X)) (i : ℕ) : Type 0 where
    pub place : ℕ
    pub within : place < length (living slots)
    pub item : (d : X) (e : BookSlot X) → get_or (living slots) place d ≡ (get_or slots i e).item
    pub changed : (x : X) → living (set slots i (record { item = x; live = true }))
        ≡ set (living slots) place x
    pub ended : (x : X) → living (set slots i (record { item = x; live = false }))
        ≡ remove (living slots) place

  pub stands-among : (slots : List (BookSlot X)) (i : ℕ) → i < length slots → LivesAt slots i
      → StandsAmong slots i
  stands-among [] i lt h = absurd (omega arith)
  stands-among (s ∷ slots) zero lt h =
      let here : living (s ∷ slots) ≡ s.item ∷ living slots =
      ap (λ (t : Bool). cond t (s.item ∷ living slots) (living slots)) (h.is s) in
      record {
        place = 0;
        within = omega (arith, ap length here);
        item = λ d e. ap (λ l. get_or l 0 d) here;
        changed = λ x. sym (ap (λ l. set l 0 x) here);
        ended = λ x. sym (ap (λ l. remove l 0) here);
      }
  stands-among (s ∷ slots) (suc i) lt h =
      by_test s.live (stands-among slots i (omega arith) (record { is = h.is }))
    where
      by_test : (t : Bool) → StandsAmong slots i
          → StandsAmong (record { item = s.item; live = t } ∷ slots) (suc i)
      by_test true behind =
          record {
            place = suc behind.place;
            within = omega (arith, behind.within);
            item = behind.item;
            changed = λ x. ap (λ l. s.item ∷ l) (behind.changed x);
            ended = λ x. ap (λ l. s.item ∷ l) (behind.ended x);
          }
      by_test false behind =
          record {
            place = behind.place;
            within = behind.within;
            item = behind.item;
            changed = behind.changed;
            ended = behind.ended;
          }

-- ---- loaders

abbrev Below : LiveLoader → LiveLoader → Type 0
Below a b = a.number < b.number

pub nobody : LiveLoader
nobody = record { number = 0; last = None }

rise : (slots : List (BookSlot LiveLoader)) (n : ℕ) → Rises (items slots) → IsNonDecreasingBy
    (λ s. ordering_index (nat_cmp s.item.number n)) slots
rise slots n h i j d le within =
    elim (cases_lt i j) [
      | inl lt ↦
          let rises =
          rises-at (items slots) i j d.item h.each lt
          (omega (arith, length-map slots (λ (s : BookSlot LiveLoader). s.item))) in
          let one = ap (λ (l : LiveLoader). l.number) (get-items slots i d) in
          let two = ap (λ (l : LiveLoader). l.number) (get-items slots j d) in
          let less : (get_or slots i d).item.number < (get_or slots j d).item.number =
          omega (arith, rises, one, two) in
          grind (arith, nat_tests)
      | inr ge ↦ let same : i ≡ j = omega arith in subst
          (λ (k : ℕ). ordering_index (nat_cmp (get_or slots i d).item.number n)
          ≤ ordering_index (nat_cmp (get_or slots k d).item.number n)) same (omega arith)
    ]

pub searched : (slots : List (BookSlot LiveLoader)) (n : ℕ) (r : Result ℕ ℕ) → Rises (items slots)
    → IsSearchInRange r (length slots) → IsBinarySearchResult (λ s. nat_cmp s.item.number n) slots r
    → IfSome (result_ok r) (LoaderIsAt (items slots) n)
    × IfNone (result_ok r) (IsAbsent (items slots) n)
searched slots n (Ok at) h within equal = (
  record {
    within = omega (arith, within, length-map slots (λ (s : BookSlot LiveLoader). s.item));
    number_is = λ d.
        ap (λ (l : LiveLoader). l.number)
        (sym (get-items slots at (record { item = d; live = true })))
        ∙ ranked _ n _ (sym (equal (record { item = d; live = true })));
  },
  tt,
)
searched slots n (Err at) h within parted = (
  tt,
  record {
    none = λ k d lt same.
        let e : BookSlot LiveLoader = record { item = d; live = true } in
        elsewhere k e (omega (arith, lt, length-map slots (λ (s : BookSlot LiveLoader). s.item)))
        (cases_lt k at) (ap (λ (l : LiveLoader). l.number) (get-items slots k e) ∙ same);
  },
)
  where
    elsewhere : (k : ℕ) (d : BookSlot LiveLoader) → k < length slots → (k < at) ⊎ (at ≤ k)
        → (get_or slots k d).item.number ≢ n
    elsewhere k d lt (inl before) same = let less : (get_or slots k d).item.number < n =
        ranked _ n _ (sym ((parted (rise slots n h)).0 k d (omega arith) before)) in omega arith
    elsewhere k d lt (inr behind) same = let more : n < (get_or slots k d).item.number =
        ranked _ n _ (sym ((parted (rise slots n h)).1 k d behind lt)) in omega arith

-- the same by place and by recursion
absent-by : (ls : List LiveLoader) (u : ℕ)
    → ((k : ℕ) (d : LiveLoader) → k < length ls → (get_or ls k d).number ≢ u)
    → AllByRecursion (λ l. l.number ≢ u) ls
absent-by [] u h = tt
absent-by (l ∷ ls) u h = (h 0 l (omega arith), absent-by ls u (λ k d lt. h (suc k) d (omega arith)))

by-absent : (ls : List LiveLoader) (u : ℕ) → AllByRecursion (λ l. l.number ≢ u) ls
    → (k : ℕ) (d : LiveLoader)
    → k < length ls → (get_or ls k d).number ≢ u
by-absent [] u h k d lt = absurd (omega arith)
by-absent (l ∷ ls) u h zero d lt = h.0
by-absent (l ∷ ls) u h (suc k) d lt = by-absent ls u h.1 k d (omega arith)

-- what is none of all is none of those that live
pub absent-living : (slots : List (BookSlot LiveLoader)) (u : ℕ) → IsAbsent (items slots) u
    → IsAbsent (living slots) u
absent-living slots u h =
    record {
      none =
          by-absent (living slots) u
          (all-kept (λ l. l.number ≢ u) slots
          (absent-by (items slots) u (λ k d lt. h.none k d lt)));
    }

pub dead-any : (slots : List (BookSlot LiveLoader)) (u i : ℕ) (d : BookSlot LiveLoader)
    → LoaderIsAt (items slots) u i
    → (get_or slots i d).live ≡ false → (e : BookSlot LiveLoader) → (get_or slots i e).live ≡ false
dead-any slots u i d at dead e =
    let within : i < length slots =
    omega (arith, at.within, length-map slots (λ (s : BookSlot LiveLoader). s.item)) in
    ap (λ (s : BookSlot LiveLoader). s.live) (same-default slots i e d within) ∙ dead

-- the number of a dead one is that of none that lives
pub absent-dead : (slots : List (BookSlot LiveLoader)) (u i : ℕ) → Rises (items slots)
    → LoaderIsAt (items slots) u i
    → ((d : BookSlot LiveLoader) → (get_or slots i d).live ≡ false) → IsAbsent (living slots) u
absent-dead slots u i h at dead =
    record {
      none =
          by-absent (living slots) u
          (others slots i h.each (omega
          (arith, at.within, length-map slots (λ (s : BookSlot LiveLoader). s.item)))
          (at.number_is nobody) dead);
    }
  where
    above : (ls : List LiveLoader) (l : LiveLoader) (u : ℕ) → l.number ≡ u
        → AllByRecursion (Below l) ls
        → AllByRecursion (λ m. m.number ≢ u) ls
    above [] l u e h = tt
    above (m ∷ ls) l u e h = (λ same. omega (arith, h.0), above ls l u e h.1)

    less : (ls : List LiveLoader) (l : LiveLoader) (i : ℕ) (d : LiveLoader)
        → AllByRecursion (Below l) ls → i < length ls
        → l.number < (get_or ls i d).number
    less [] l i d h lt = absurd (omega arith)
    less (m ∷ ls) l zero d h lt = h.0
    less (m ∷ ls) l (suc i) d h lt = less ls l i d h.1 (omega arith)

    others : (slots : List (BookSlot LiveLoader)) (i : ℕ) → Pairwise Below (items slots)
        → i < length slots
        → (get_or (items slots) i nobody).number ≡ u
        → ((d : BookSlot LiveLoader) → (get_or slots i d).live ≡ false)
        → AllByRecursion (λ l. l.number ≢ u) (living slots)
    others [] i h lt e dead = absurd (omega arith)
    others (s ∷ slots) zero h lt e dead =
        subst (λ (t : Bool). AllByRecursion (λ l. l.number ≢ u)
        (cond t (s.item ∷ living slots) (living slots))) (sym (dead s))
        (all-kept (λ l. l.number ≢ u) slots (above (items slots) s.item u e h.0))
    others (s ∷ slots) (suc i) h lt e dead =
        by_test s.live (others slots i h.1 (omega arith) e dead)
      where
        by_test : (t : Bool) → AllByRecursion (λ l. l.number ≢ u) (living slots)
            → AllByRecursion (λ l. l.number ≢ u) (cond t (s.item ∷ living slots) (living slots))
        by_test true behind =
            let before =
            less (items slots) s.item i nobody h.0
            (omega (arith, lt, length-map slots (λ (s : BookSlot LiveLoader). s.item))) in
            (λ same. omega (arith, before, e, same), behind)
        by_test false behind = behind

-- one that is kept is among those that live
pub at-living : (slots : List (BookSlot LiveLoader)) (u i : ℕ) (kept : LoaderLivesAt slots u i)
    (s : StandsAmong slots i)
    → LoaderIsAt (living slots) u s.place
at-living slots u i kept s =
    record {
      within = s.within;
      number_is = λ d.
          ap (λ (l : LiveLoader). l.number) (s.item d (record { item = d; live = true })
          ∙ get-items slots i (record { item = d; live = true })) ∙ kept.at.number_is d;
    }

pub stands : (slots : List (BookSlot LiveLoader)) (u i : ℕ) → LoaderLivesAt slots u i
    → StandsAmong slots i
stands slots u i kept =
    stands-among slots i (omega
    (arith, kept.at.within, length-map slots (λ (s : BookSlot LiveLoader). s.item))) kept.lives

-- one that is kept is found again if the same ones live
pub found-again : (slots more : List (BookSlot LiveLoader)) (u i : ℕ) (o : Option ℕ)
    → LoaderLivesAt slots u i
    → living more ≡ living slots → IfNone o (IsAbsent (living more) u) → IsSome o
found-again slots more u i None kept same absent =
    let at = at-living slots u i kept (stands slots u i kept) in
    let there : Among u (numbers_of_loaders (living slots)) =
    at-among u (living slots) (stands slots u i kept).place nobody at.within
    (at.number_is nobody) in
    absurd (absent-among u (living more) absent
    (subst (λ (ls : List LiveLoader). Among u (numbers_of_loaders ls)) (sym same) there))
found-again slots more u i (Some j) kept same absent = refl

-- what a place has is what its place among the live ones has
pub same-kept : (slots : List (BookSlot LiveLoader)) (i : ℕ) (s : StandsAmong slots i)
    (x : BookSlot LiveLoader)
    → x ≡ get_or slots i x → x.item ≡ get_or (living slots) s.place x.item
same-kept slots i s x is = ap (λ (y : BookSlot LiveLoader). y.item) is ∙ sym (s.item x.item x)

rises-kept : (slots : List (BookSlot LiveLoader)) → Pairwise Below (items slots)
    → Pairwise Below (living slots)
rises-kept [] h = tt
rises-kept (s ∷ slots) h = by_test s.live (rises-kept slots h.1)
  where
    by_test : (t : Bool) → Pairwise Below (living slots)
        → Pairwise Below (cond t (s.item ∷ living slots) (living slots))
    by_test true behind = (all-kept (Below s.item) slots h.0, behind)
    by_test false behind = behind

pub rises-living : (slots : List (BookSlot LiveLoader)) → Rises (items slots) → Rises (living slots)
rises-living slots h = record { each = rises-kept slots h.each }

all-take : (P : LiveLoader → Type 0) (n : ℕ) (ls : List LiveLoader) → AllByRecursion P ls
    → AllByRecursion P (take n ls)
all-take P zero ls h = tt
all-take P (suc n) [] h = tt
all-take P (suc n) (l ∷ ls) h = (h.0, all-take P n ls h.1)

pub rises-take : (n : ℕ) (ls : List LiveLoader) → Pairwise Below ls → Pairwise Below (take n ls)
rises-take zero ls h = tt
rises-take (suc n) [] h = tt
rises-take (suc n) (l ∷ ls) h = (all-take (Below l) n ls h.0, rises-take n ls h.1)

-- numbers below n among the live ones are below n among all, since the last one lives
pub all-below : (slots : List (BookSlot LiveLoader)) (n : ℕ) → Rises (items slots)
    → ((k : ℕ) → length slots ≡ k + 1 → LivesAt slots k)
    → AllByRecursion (λ l. l.number < n) (living slots)
    → AllByRecursion (λ l. l.number < n) (items slots)
all-below slots n h last below = by_rest slots h.each (λ k e d. (last k e).is d) below
  where
    by_rest : (slots : List (BookSlot LiveLoader)) → Pairwise Below (items slots)
        → ((k : ℕ) → length slots ≡ k + 1 → (d : BookSlot LiveLoader) → (get_or slots k d).live
        ≡ true)
        → AllByRecursion (λ l. l.number < n) (living slots)
        → AllByRecursion (λ l. l.number < n) (items slots)
    by_rest [] h last below = tt
    by_rest (s ∷ []) h last below =
        let own : AllByRecursion (λ l. l.number < n) (s.item ∷ []) =
        subst (λ (t : Bool). AllByRecursion (λ l. l.number < n) (cond t (s.item ∷ []) []))
        (last 0 refl s) below in
        (own.0, tt)
    by_rest (s ∷ t ∷ slots) h last below =
        let behind =
        by_rest (t ∷ slots) h.1 (λ k e d. last (suc k) (omega (arith, e)) d)
        (rest s.live (living (t ∷ slots)) below) in
        (omega (arith, h.0.0, behind.0), behind)
      where
        rest : (b : Bool) (ls : List LiveLoader)
            → AllByRecursion (λ l. l.number < n) (cond b (s.item ∷ ls) ls)
            → AllByRecursion (λ l. l.number < n) ls
        rest true ls all = all.1
        rest false ls all = all

-- all numbers of live ones are below a number that the last one is below
pub above-living : (n : ℕ) (slots : List (BookSlot LiveLoader)) (k : ℕ) (d : BookSlot LiveLoader)
    → Rises (items slots)
    → length slots ≡ suc k → (get_or slots k d).live ≡ true → list_all
    (λ u. nat_lt u n) (numbers_of_loaders (living slots)) ≡ nat_lt (get_or slots k d).item.number n
above-living n slots k d h e live = by_rest slots k h.each e live
  where
    single : (t : Bool) → (t && true) ≡ t
    single true = refl
    single false = refl

    both : (x y : ℕ) (all : Bool) → x < y → all ≡ nat_lt y n → (nat_lt x n && all) ≡ nat_lt y n
    both x y all lt is = by_test (nat_lt y n) refl
      where
        by_test : (t : Bool) → nat_lt y n ≡ t → (nat_lt x n && all) ≡ nat_lt y n
        by_test true e =
            let first : nat_lt x n ≡ true = lt-ltb x n (omega (arith, lt, ltb-true y n e)) in
            ap (λ (t : Bool). t && all) first ∙ is
        by_test false e = ap (λ (t : Bool). nat_lt x n && t) (is ∙ e) ∙ none (nat_lt x n) ∙ sym e
          where
            none : (t : Bool) → (t && false) ≡ false
            none true = refl
            none false = refl

    less : (ls : List LiveLoader) (l : LiveLoader) (i : ℕ) (d : LiveLoader)
        → AllByRecursion (Below l) ls → i < length ls
        → l.number < (get_or ls i d).number
    less [] l i d h lt = absurd (omega arith)
    less (m ∷ ls) l zero d h lt = h.0
    less (m ∷ ls) l (suc i) d h lt = less ls l i d h.1 (omega arith)

    by_rest : (slots : List (BookSlot LiveLoader)) (k : ℕ) → Pairwise Below (items slots)
        → length slots ≡ suc k
        → (get_or slots k d).live ≡ true
        → list_all (λ u. nat_lt u n) (numbers_of_loaders (living slots))
        ≡ nat_lt (get_or slots k d).item.number n
    by_rest [] k h e live = absurd (omega arith)
    by_rest (s ∷ []) zero h e live =
        ap (λ (t : Bool). list_all (λ u. nat_lt u n) (numbers_of_loaders (cond t (s.item ∷ []) [])))
        live
        ∙ single (nat_lt s.item.number n)
    by_rest (s ∷ []) (suc k) h e live = absurd (omega arith)
    by_rest (s ∷ t ∷ slots) zero h e live = absurd (omega arith)
    by_rest (s ∷ t ∷ slots) (suc k) h e live =
        by_test s.live (by_rest (t ∷ slots) k h.1 (omega arith) live)
      where
        by_test : (b : Bool) → list_all (λ u. nat_lt u n) (numbers_of_loaders (living (t ∷ slots)))
            ≡ nat_lt (get_or (t ∷ slots) k d).item.number n
            → list_all (λ u. nat_lt u n)
            (numbers_of_loaders (cond b (s.item ∷ living (t ∷ slots)) (living (t ∷ slots))))
            ≡ nat_lt (get_or (t ∷ slots) k d).item.number n
        by_test true behind =
            let before =
            less (items (t ∷ slots)) s.item k d.item h.0
            (omega (arith, e, length-map slots (λ (s : BookSlot LiveLoader). s.item))) in
            both s.item.number (get_or (t ∷ slots) k d).item.number
            (list_all (λ u. nat_lt u n) (numbers_of_loaders (living (t ∷ slots))))
            (omega (arith, before, ap (λ (l : LiveLoader). l.number) (get-items (t ∷ slots) k d)))
            behind
        by_test false behind = behind
