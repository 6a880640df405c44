-- Following a loader's rows backwards from one of them, to find those on one chunk.
-- For `LiveRows::last_kept`, `LastKept::next`, `newest_on`.
use Rattle.std.proofs.Common.{◌≡◌, ℕ, zero, suc, ◌+◌, ◌-◌, ◌≤◌, Bool, true, false, cond, List, []}
use Rattle.std.proofs.Common.{◌∷◌, ◌++◌, length, take, drop, get_or, Option, Some, None, refl, sym}
use Rattle.std.proofs.Common.{ap, subst, ◌∙◌, arith, eqb, inl, inr, take-append-drop, append-nil}
use Rattle.std.specs.Prelude.{◌&&◌}
use Rattle.std.specs.List.{slice_get}
use Rattle.std.proofs.lemmas.Bool.{eqb-true, eq-eqb}
use Rattle.std.proofs.lemmas.List.{take_all}
use Rattle.std.proofs.lemmas.Option.{get_or_from_slice_get}
use Rattle.cm_pool.specs.declared.chunk.Chunk.{Chunk}
use Rattle.cm_pool.specs.Chunks.{same_chunk}
use Rattle.cm_pool.specs.Lists.{Among}
use Rattle.cm_pool.proofs.{same_chunk-true, among-left, among-right}
use Rattle.cm_layout.specs.declared.class_row.ClassRow.{ClassRow}
use Rattle.cm_layout.specs.declared.row.Row.{Row}
use Rattle.cm_layout.specs.declared.row.Row.TheVariants.{Loader, Class}
use Rattle.cm_layout.specs.Rows.{is_of, classes_in, used_words, kept_on, last_chunk}
use Rattle.cm_layout.proofs.{classes_in-append, used-append, kept-append, none-kept, none-used}
use Rattle.cm_layout.proofs.{last_chunk-among}
use Rattle.cm_index.specs.declared.slot.BookSlot.{BookSlot}
use Rattle.cm_index.specs.Living.{living}
use Rattle.cm_index.proofs.{living-append, living-push}
use Rattle.cm_rows.specs.declared.live_loader.LastChunk.{LastChunk}
use Rattle.cm_rows.specs.Held.{AreFounded}
use Rattle.cm_rows.specs.Links.{loader_in, place_behind, last_place, places_left, AreLinked}
use Rattle.cm_rows.specs.Links.{is_on, AreOwnOn, rows_to, ComesBack, LinksBack}
use Rattle.cm_rows.specs.Rows.{last_of}
use Rattle.cm_rows.proofs.Changes.{last_of-is, use-chunk}
use Rattle.cm_rows.proofs.Linking.{stands-last, of-is, get-take, place-less}
use Rattle.cm_rows.proofs.Moving.{take-short, none-after}

-- ---- rows after a loader's last one

-- as far as this chunk is concerned, these rows are the same as `more`
pub record SameOn {P : Type 0} (c : Chunk) (rows more : List (Row P)) : Type 0 where
  pub kept : kept_on c rows ≡ kept_on c more
  pub used : used_words c rows ≡ used_words c more

nothing-behind : (o : Option ℕ) (t : Bool) → place_behind o t ≡ None → (o ≡ None) × (t ≡ false)
nothing-behind (Some i) t h = absurd (cc)
nothing-behind None true h = absurd (cc)
nothing-behind None false h = (refl, refl)

module _ {P : Type 0} where
  no-class : (u : ℕ) (slots : List (BookSlot (Row P))) (s : ClassRow) → last_place u slots ≡ None
      → Among s (classes_in (living slots)) → s.loader ≡ u → ⊥
  no-class u [] s none m own = m
  no-class u (z ∷ slots) s none m own =
      let parts = nothing-behind (last_place u slots) (z.live && is_of u z.item) none in
      by_row z.live z.item parts.1 (λ later. no-class u slots s parts.0 later own) m
    where
      by_row : (live : Bool) (row : Row P) → (live && is_of u row) ≡ false
          → (Among s (classes_in (living slots)) → ⊥)
          → Among s (classes_in (cond live (row ∷ living slots) (living slots))) → ⊥
      by_row false row e rest m = rest m
      by_row true (Loader r) e rest m = rest m
      by_row true (Class r p) e rest (inl is) =
          let yes : eqb r.loader u ≡ true =
          eq-eqb r.loader u (sym (ap (λ (d : ClassRow). d.loader) is) ∙ own) in
          absurd (cc)
      by_row true (Class r p) e rest (inr m) = rest m

  none-on : (u : ℕ) (c : Chunk) (slots : List (BookSlot (Row P))) → AreOwnOn u c slots
      → last_place u slots ≡ None → (s : ClassRow) → Among s (classes_in (living slots))
      → same_chunk s.place.chunk c ≡ false
  none-on u c slots own none s m = by_test (same_chunk s.place.chunk c) refl
    where
      by_test : (t : Bool) → same_chunk s.place.chunk c ≡ t → t ≡ false
      by_test true e =
          absurd (no-class u slots s none m (own s m (same_chunk-true s.place.chunk c e)))
      by_test false e = refl

  classes-parted : (slots : List (BookSlot (Row P))) (k : ℕ)
      → classes_in (living slots)
      ≡ classes_in (living (take k slots)) ++ classes_in (living (drop k slots))
  classes-parted slots k =
      ap (λ (l : List (BookSlot (Row P))). classes_in (living l)) (sym (take-append-drop k slots))
      ∙ ap classes_in (living-append (take k slots) (drop k slots))
      ∙ classes_in-append (living (take k slots)) (living (drop k slots))

  own-front : (u : ℕ) (c : Chunk) (slots : List (BookSlot (Row P))) (k : ℕ) → AreOwnOn u c slots
      → AreOwnOn u c (take k slots)
  own-front u c slots k own r m =
      own r (subst (λ (l : List ClassRow). Among r l) (sym (classes-parted slots k))
      (among-left r (classes_in (living (take k slots))) (classes_in (living (drop k slots))) m))

  own-back : (u : ℕ) (c : Chunk) (slots : List (BookSlot (Row P))) (k : ℕ) → AreOwnOn u c slots
      → AreOwnOn u c (drop k slots)
  own-back u c slots k own r m =
      own r (subst (λ (l : List ClassRow). Among r l) (sym (classes-parted slots k))
      (among-right r (classes_in (living (take k slots))) (classes_in (living (drop k slots))) m))

  front-same : (u : ℕ) (c : Chunk) (slots : List (BookSlot (Row P))) (k : ℕ)
      → AreOwnOn u c slots → last_place u (drop k slots) ≡ None
      → SameOn c (living slots) (living (take k slots))
  front-same u c slots k own none =
      let front = living (take k slots) in
      let back = living (drop k slots) in
      let parted : living slots ≡ front ++ back =
      ap (λ (l : List (BookSlot (Row P))). living l) (sym (take-append-drop k slots))
      ∙ living-append (take k slots) (drop k slots) in
      let free = none-on u c (drop k slots) (own-back u c slots k own) none in
      let fewer : used_words c back ≡ 0 = none-used c back free in
      record {
        kept = ap (kept_on c) parted ∙ kept-append c front back
            ∙ ap (λ (l : List P). kept_on c front ++ l) (none-kept c back free)
            ∙ append-nil (kept_on c front);
        used = ap (used_words c) parted ∙ omega (arith, used-append c front back, fewer);
      }

  -- the rows up to the loader's last place are all there are on its chunk
  pub last-same : (u : ℕ) (c : Chunk) (slots : List (BookSlot (Row P))) → AreOwnOn u c slots
      → SameOn c (living slots) (rows_to (last_place u slots) slots)
  last-same u c slots own = by_place (last_place u slots) refl
    where
      by_place : (o : Option ℕ) → last_place u slots ≡ o
          → SameOn c (living slots) (rows_to o slots)
      by_place None is = front-same u c slots 0 own is
      by_place (Some i) is = front-same u c slots (suc i) own (none-after u slots i is)

  -- the same holds before each place
  pub front-last : (u : ℕ) (c : Chunk) (slots : List (BookSlot (Row P))) (at : ℕ)
      → AreOwnOn u c slots
      → SameOn c (living (take at slots)) (rows_to (last_place u (take at slots)) slots)
  front-last u c slots at own =
      let few = place-less u slots at in
      let same = last-same u c (take at slots) (own-front u c slots at own) in
      subst (λ (l : List (BookSlot (Row P))). SameOn c (living (take at slots)) (living l))
      (take-short slots (places_left (last_place u (take at slots))) at few) same

-- ---- one row

take-next : {X : Type 0} (xs : List X) (i : ℕ) (x : X) → slice_get xs i ≡ Some x
    → take (suc i) xs ≡ take i xs ++ x ∷ []
take-next [] i x h = absurd (cc)
take-next (y ∷ xs) zero x h = let is : y ≡ x = cc in ap (λ z. z ∷ []) is
take-next (y ∷ xs) (suc i) x h = ap (λ l. y ∷ l) (take-next xs i x h)

module _ {P : Type 0} where
  -- the row that comes next
  pub record Next (u : ℕ) (slots : List (BookSlot (Row P))) (i : ℕ) : Type 0 where
    pub row : Row P
    pub there : slice_get slots i ≡ Some (record { item = row; live = true })
    pub own : is_of u row ≡ true
    pub rows : rows_to (Some i) slots ≡ living (take i slots) ++ row ∷ []

  pub next-row : (slots : List (BookSlot (Row P))) (before : List (Option ℕ)) (c : Chunk) (i : ℕ)
      (used : ℕ) → (g : LinksBack slots before c (Some i) used) → Next g.loader slots i
  next-row slots before c i used g =
      let at = stands-last g.loader (take g.behind slots) i (sym g.next_is) in
      let s = at.slot in
      let live : s ≡ record { item = s.item; live = true } =
      ap (λ (b : Bool). record { item = s.item; live = b }) at.lives in
      let there = get-take slots i g.behind s at.there in
      record {
        row = s.item;
        there = there ∙ ap Some live;
        own = at.own;
        rows = ap (λ (l : List (BookSlot (Row P))). living l) (take-next slots i s there)
            ∙ living-push (take i slots) s at.lives;
      }

  pub before-less : (slots : List (BookSlot (Row P))) (before : List (Option ℕ)) (c : Chunk)
      (i used : ℕ) → LinksBack slots before c (Some i) used → places_left (get_or before i None) ≤ i
  before-less slots before c i used g =
      let n = next-row slots before c i used g in
      let link = g.linked.each i (record { item = n.row; live = true }) n.there refl in
      omega (arith, ap places_left link, place-less (loader_in n.row) slots i)

  -- from a row of the loader the walk goes back to the one before it
  pub goes-before : (slots : List (BookSlot (Row P))) (before : List (Option ℕ)) (c : Chunk)
      (next : Option ℕ) (used i words : ℕ) (row : Row P)
      → (g : LinksBack slots before c next used)
      → slice_get slots i ≡ Some (record { item = row; live = true }) → is_of g.loader row ≡ true
      → used ≡ used_words c (living (take i slots)) + words
      → LinksBack slots before c (get_or before i None) (used - words)
      × (kept_on c (living (take i slots)) ≡ kept_on c (rows_to (get_or before i None) slots))
  goes-before slots before c next used i words row g there own is =
      let u = g.loader in
      let loader : loader_in row ≡ u = eqb-true (loader_in row) u (sym (of-is u row) ∙ own) in
      let link : get_or before i None ≡ last_place u (take i slots) =
      g.linked.each i (record { item = row; live = true }) there refl
      ∙ ap (λ (v : ℕ). last_place v (take i slots)) loader in
      let same = subst (λ (o : Option ℕ). SameOn c (living (take i slots)) (rows_to o slots))
      (sym link) (front-last u c slots i g.own) in (
        record {
          loader = u;
          behind = i;
          next_is = link;
          linked = g.linked;
          own = g.own;
          some = g.some;
          used_is = omega (arith, is, same.used);
        },
        same.kept,
      )

  -- a row that isn't on the chunk is skipped
  pub passes : (slots : List (BookSlot (Row P))) (before : List (Option ℕ)) (c : Chunk) (i used : ℕ)
      → (g : LinksBack slots before c (Some i) used)
      → is_on c (next-row slots before c i used g).row ≡ false
      → LinksBack slots before c (get_or before i None) used
      × (kept_on c (rows_to (Some i) slots) ≡ kept_on c (rows_to (get_or before i None) slots))
  passes slots before c i used g off =
      let n = next-row slots before c i used g in
      let front = living (take i slots) in
      let one = by_row n.row off in
      let words : used ≡ used_words c front + 0 =
      g.used_is ∙ ap (used_words c) n.rows
      ∙ omega (arith, used-append c front (n.row ∷ []), one.1) in
      let behind = goes-before slots before c (Some i) used i 0 n.row g n.there n.own words in
      let same : used - 0 ≡ used = omega arith in (
        subst (λ (k : ℕ). LinksBack slots before c (get_or before i None) k) same behind.0,
        ap (kept_on c) n.rows ∙ kept-append c front (n.row ∷ [])
            ∙ ap (λ (l : List P). kept_on c front ++ l) one.0
            ∙ append-nil (kept_on c front) ∙ behind.1,
      )
    where
      by_row : (row : Row P) → is_on c row ≡ false
          → (kept_on c (row ∷ []) ≡ []) × (used_words c (row ∷ []) ≡ 0)
      by_row (Loader r) e = (refl, refl)
      by_row (Class r p) e = (rw e refl, rw e refl)

  -- a row on the chunk is found
  pub comes-back : (slots : List (BookSlot (Row P))) (before : List (Option ℕ)) (c : Chunk)
      (i used : ℕ) → (g : LinksBack slots before c (Some i) used)
      → is_on c (next-row slots before c i used g).row ≡ true → ComesBack c slots (Some i) i
  comes-back slots before c i used g on =
      let n = next-row slots before c i used g in
      let front = living (take i slots) in
      by_row n.row n.there n.rows on
    where
      by_row : (row : Row P) → slice_get slots i ≡ Some (record { item = row; live = true })
          → rows_to (Some i) slots ≡ living (take i slots) ++ row ∷ [] → is_on c row ≡ true
          → ComesBack c slots (Some i) i
      by_row (Loader r) there rows e = absurd (cc)
      by_row (Class r p) there rows e =
          let front = living (take i slots) in
          let kept : kept_on c (Class r p ∷ []) ≡ p ∷ [] = rw e refl in
          let words : used_words c (Class r p ∷ []) ≡ r.place.words = rw e (omega arith) in
          record {
            row = r;
            kept = p;
            is = there;
            on = same_chunk-true r.place.chunk c e;
            rows = ap (kept_on c) rows ∙ kept-append c front (Class r p ∷ [])
                ∙ ap (λ (l : List P). kept_on c front ++ l) kept;
            words = ap (used_words c) rows
                ∙ omega (arith, used-append c front (Class r p ∷ []), words);
          }

  -- the same row is found from further on
  pub comes-from : (c : Chunk) (slots : List (BookSlot (Row P))) (from next : Option ℕ) (i : ℕ)
      → kept_on c (rows_to from slots) ≡ kept_on c (rows_to next slots)
      → used_words c (rows_to from slots) ≡ used_words c (rows_to next slots)
      → ComesBack c slots next i → ComesBack c slots from i
  comes-from c slots from next i kept used b = record {
    row = b.row;
    kept = b.kept;
    is = b.is;
    on = b.on;
    rows = kept ∙ b.rows;
    words = used ∙ b.words;
  }

  none-kept_on : (c : Chunk) (rows : List (Row P))
      → ((r : ClassRow) → Among r (classes_in rows) → 1 ≤ r.place.words) → used_words c rows ≡ 0
      → kept_on c rows ≡ []
  none-kept_on c [] some none = refl
  none-kept_on c (Loader r ∷ rows) some none = none-kept_on c rows some none
  none-kept_on c (Class r p ∷ rows) some none =
      by_test (same_chunk r.place.chunk c) refl
      (λ fewer. none-kept_on c rows (λ s m. some s (inr m)) fewer)
    where
      by_test : (t : Bool) → same_chunk r.place.chunk c ≡ t
          → (used_words c rows ≡ 0 → kept_on c rows ≡ [])
          → cond t (p ∷ kept_on c rows) (kept_on c rows) ≡ []
      by_test true e rest =
          let one : used_words c (Class r p ∷ []) ≡ r.place.words = rw e (omega arith) in
          absurd (omega (
            arith,
            used-append c (Class r p ∷ []) rows,
            one,
            none,
            some r (inl refl),
          ))
      by_test false e rest =
          let one : used_words c (Class r p ∷ []) ≡ 0 = rw e refl in
          rest (omega (arith, used-append c (Class r p ∷ []) rows, one, none))

  -- if no words are in use any more, nothing is left
  pub nothing-left : (slots : List (BookSlot (Row P))) (before : List (Option ℕ)) (c : Chunk)
      (next : Option ℕ) (used : ℕ) → LinksBack slots before c next used → used ≡ 0
      → kept_on c (rows_to next slots) ≡ []
  nothing-left slots before c next used g none =
      none-kept_on c (rows_to next slots)
      (λ r m. g.some r (subst (λ (l : List ClassRow). Among r l)
      (sym (classes-parted slots (places_left next)))
      (among-left r (classes_in (living (take (places_left next) slots)))
      (classes_in (living (drop (places_left next) slots))) m)))
      (sym g.used_is ∙ none)

  -- once the row that was found is taken
  pub taken : (slots : List (BookSlot (Row P))) (before : List (Option ℕ)) (c : Chunk)
      (next : Option ℕ) (used i : ℕ) → LinksBack slots before c next used
      → (b : ComesBack c slots next i)
      → LinksBack slots before c (get_or before i None) (used - b.row.place.words)
      × (kept_on c (rows_to next slots)
      ≡ kept_on c (rows_to (get_or before i None) slots) ++ b.kept ∷ [])
  taken slots before c next used i g b =
      let mine : b.row.loader ≡ g.loader =
      g.own b.row (class-at slots i b.row b.kept b.is) b.on in
      let behind = goes-before slots before c next used i b.row.place.words
      (Class b.row b.kept) g b.is (eq-eqb b.row.loader g.loader mine) (g.used_is ∙ b.words) in (
        behind.0,
        b.rows ∙ ap (λ (l : List P). l ++ b.kept ∷ []) behind.1,
      )
    where
      class-at : (ss : List (BookSlot (Row P))) (k : ℕ) (r : ClassRow) (p : P)
          → slice_get ss k ≡ Some (record { item = Class r p; live = true })
          → Among r (classes_in (living ss))
      class-at ss k r p there =
          let parted = classes-parted ss (suc k) in
          subst (λ (l : List ClassRow). Among r l) (sym parted)
          (among-left r (classes_in (living (take (suc k) ss)))
          (classes_in (living (drop (suc k) ss)))
          (subst (λ (l : List (Row P)). Among r (classes_in l))
          (sym (ap (λ (l : List (BookSlot (Row P))). living l) (take-next ss k _ there)
          ∙ living-push (take k ss) (record { item = Class r p; live = true }) refl))
          (subst (λ (l : List ClassRow). Among r l)
          (sym (classes_in-append (living (take k ss)) (Class r p ∷ [])))
          (among-right r (classes_in (living (take k ss))) (r ∷ []) (inl refl)))))

module _ {P : Type 0} where
  -- the row at the place that was found is of its class
  pub found-row : (slots : List (BookSlot (Row P))) (c : Chunk) (from : Option ℕ) (i : ℕ)
      (b : ComesBack c slots from i) (d : BookSlot (Row P)) (r : ClassRow) (p : P)
      → (get_or slots i d).item ≡ Class r p → (b.row ≡ r) × (b.kept ≡ p)
  found-row slots c from i b d r p is =
      let same : Class b.row b.kept ≡ Class r p =
      sym (ap (λ (s : BookSlot (Row P)). s.item) (get_or_from_slice_get slots i _ d b.is)) ∙ is in
      (cc, cc)

-- ---- from the newest row

module _ {P : Type 0} where
  pub newest-goes : (slots : List (BookSlot (Row P))) (before : List (Option ℕ)) (u : ℕ)
      (l : LastChunk) (newest : Option ℕ) → AreLinked slots before
      → AreFounded (classes_in (living slots)) → newest ≡ last_place u slots
      → last_of u (living slots) ≡ Some l
      → LinksBack slots before l.chunk newest l.used
      × (kept_on l.chunk (living slots) ≡ kept_on l.chunk (rows_to newest slots))
  newest-goes slots before u l newest linked founded is last =
      let rows = living slots in
      let last_use = use-chunk u (classes_in rows) l (sym (last_of-is u rows) ∙ last) in
      let s = last_chunk-among u (classes_in rows) l.chunk last_use.0 in
      let own : AreOwnOn u l.chunk slots =
      λ r m on. founded.owner r s.0 m s.1 (on ∙ sym s.3) ∙ s.2 in
      let same = subst (λ (o : Option ℕ). SameOn l.chunk rows (rows_to o slots)) (sym is)
      (last-same u l.chunk slots own) in
      let whole : take (length slots) slots ≡ slots =
      take_all (length slots) slots (omega arith) in (
        record {
          loader = u;
          behind = length slots;
          next_is = is ∙ sym (ap (last_place u) whole);
          linked = linked;
          own = own;
          some = founded.words;
          used_is = by_last (last_chunk u (classes_in rows)) last ∙ same.used;
        },
        same.kept,
      )
    where
      by_last : (o : Option Chunk)
          → elim o [
            | Some c ↦ Some (record { chunk = c; used = used_words c (living slots) })
            | None ↦ None
          ] ≡ Some l
          → l.used ≡ used_words l.chunk (living slots)
      by_last None e = absurd (cc)
      by_last (Some c) e =
          let is : record { chunk = c; used = used_words c (living slots) } ≡ l = cc in
          let chunk : c ≡ l.chunk = ap (λ (x : LastChunk). x.chunk) is in
          sym (ap (λ (x : LastChunk). x.used) is)
          ∙ ap (λ (x : Chunk). used_words x (living slots)) chunk
