-- A walk that moves a loader's rows, starting at the last one, may stop once no words are left on
-- their chunk.
-- For `LiveRows::apply_move`, `move_rows`.
use Rattle.std.proofs.Common.{◌≡◌, ℕ, ◌+◌, ◌-◌, ◌≤◌, Bool, true, false, cond, List, [], ◌∷◌, ◌++◌}
use Rattle.std.proofs.Common.{map, take, drop, get_or, Option, Some, None, refl, sym, ap, ap₂}
use Rattle.std.proofs.Common.{subst, ◌∙◌, arith, take-append-drop}
use Rattle.std.proofs.lemmas.Bool.{eqb-true}
use Rattle.std.proofs.lemmas.List.{map-append}
use Rattle.cm_pool.specs.declared.chunk.Chunk.{Chunk}
use Rattle.cm_pool.specs.Chunks.{same_chunk}
use Rattle.cm_layout.specs.declared.class_row.ClassRow.{ClassRow}
use Rattle.cm_layout.specs.declared.row.Row.{Row}
use Rattle.cm_layout.specs.declared.row.Row.TheVariants.{Loader, Class}
use Rattle.cm_layout.specs.Rows.{kept_on, used_words, moved_row}
use Rattle.cm_layout.proofs.{used-append}
use Rattle.cm_index.specs.declared.slot.BookSlot.{BookSlot}
use Rattle.cm_index.specs.Living.{living, moved_slot}
use Rattle.cm_rows.specs.Links.{loader_in, AreOwnOn, LinksBack, rows_to, words_on}
use Rattle.cm_rows.proofs.Backward.{next-row, goes-before, front-last, nothing-left}
use Rattle.cm_rows.proofs.Linking.{of-is}
use Rattle.cm_rows.proofs.Moving.{MovesOn, comes-to}

module _ {P : Type 0} where
  used-row : (c : Chunk) (row : Row P) → used_words c (row ∷ []) ≡ words_on c row
  used-row c (Loader r) = refl
  used-row c (Class r p) = by_test (same_chunk r.place.chunk c) refl
    where
      by_test : (t : Bool) → same_chunk r.place.chunk c ≡ t
          → used_words c (Class r p ∷ []) ≡ words_on c (Class r p)
      by_test true e = rw e (omega arith)
      by_test false e = rw e refl

  -- this many words are in use up to the row, its own among them
  used-to : (slots : List (BookSlot (Row P))) (before : List (Option ℕ)) (c : Chunk) (i used : ℕ)
      → (g : LinksBack slots before c (Some i) used)
      → used ≡ used_words c (living (take i slots))
      + words_on c (next-row slots before c i used g).row
  used-to slots before c i used g =
      let n = next-row slots before c i used g in
      let front = living (take i slots) in
      g.used_is ∙ ap (used_words c) n.rows
      ∙ omega (arith, used-append c front (n.row ∷ []), used-row c n.row)

  pub words-less : (slots : List (BookSlot (Row P))) (before : List (Option ℕ)) (c : Chunk)
      (i used : ℕ) → (g : LinksBack slots before c (Some i) used)
      → words_on c (next-row slots before c i used g).row ≤ used
  words-less slots before c i used g =
      let is = used-to slots before c i used g in omega (arith, is)

  -- the walk goes back to the row before it
  pub goes-back : (slots : List (BookSlot (Row P))) (before : List (Option ℕ)) (c : Chunk)
      (i used : ℕ) → (g : LinksBack slots before c (Some i) used)
      → LinksBack slots before c (get_or before i None)
      (used - words_on c (next-row slots before c i used g).row)
  goes-back slots before c i used g =
      let n = next-row slots before c i used g in
      (goes-before slots before c (Some i) used i (words_on c n.row) n.row g n.there n.own
      (used-to slots before c i used g)).0

  -- if nothing is kept on a chunk, no row moves
  none-on-moves : (from to : Chunk) (slots : List (BookSlot (Row P)))
      → kept_on from (living slots) ≡ [] → map (moved_slot from to) slots ≡ slots
  none-on-moves from to [] none = refl
  none-on-moves from to (s ∷ slots) none =
      by_slot s.live s.item (λ rest. none-on-moves from to slots rest) none
    where
      by_chunk : (r : ClassRow) (p : P) (t : Bool)
          → (kept_on from (living slots) ≡ [] → map (moved_slot from to) slots ≡ slots)
          → cond t (p ∷ kept_on from (living slots)) (kept_on from (living slots)) ≡ []
          → ◌≡◌ {A = List (BookSlot (Row P))} (record {
            item = cond t (Class (record r { place = record r.place { chunk = to } }) p)
                (Class r p);
            live = true;
          } ∷ map (moved_slot from to) slots) (record { item = Class r p; live = true } ∷ slots)
      by_chunk r p true rest e = absurd (cc)
      by_chunk r p false rest e =
          ap (λ (l : List (BookSlot (Row P))). record { item = Class r p; live = true } ∷ l)
          (rest e)

      by_slot : (live : Bool) (row : Row P)
          → (kept_on from (living slots) ≡ [] → map (moved_slot from to) slots ≡ slots)
          → kept_on from (cond live (row ∷ living slots) (living slots)) ≡ []
          → ◌≡◌ {A = List (BookSlot (Row P))}
          (record { item = cond live (moved_row from to row) row; live = live }
          ∷ map (moved_slot from to) slots) (record { item = row; live = live } ∷ slots)
      by_slot false row rest e =
          ap (λ (l : List (BookSlot (Row P))). record { item = row; live = false } ∷ l) (rest e)
      by_slot true (Loader r) rest e =
          ap (λ (l : List (BookSlot (Row P))). record { item = Loader r; live = true } ∷ l) (rest e)
      by_slot true (Class r p) rest e = by_chunk r p (same_chunk r.place.chunk from) rest e

  -- the next row is one of the loader's
  one-loader : (u : ℕ) (from to : Chunk) (old slots : List (BookSlot (Row P)))
      (before : List (Option ℕ)) (i left : ℕ) → MovesOn u from to old slots (Some i)
      → (g : LinksBack old before from (Some i) left) → g.loader ≡ u
  one-loader u from to old slots before i left m g =
      let c = comes-to u from to old slots i m in
      let n = next-row old before from i left g in
      let same : c.slot ≡ record { item = n.row; live = true } =
      some-same c.slot (record { item = n.row; live = true }) (sym c.was ∙ n.there) in
      let mine : loader_in c.slot.item ≡ u =
      eqb-true (loader_in c.slot.item) u (sym (of-is u c.slot.item) ∙ c.own) in
      let here : loader_in n.row ≡ g.loader =
      eqb-true (loader_in n.row) g.loader (sym (of-is g.loader n.row) ∙ n.own) in
      sym here ∙ sym (ap (λ (s : BookSlot (Row P)). loader_in s.item) same) ∙ mine
    where
      some-same : (a b : BookSlot (Row P)) → Some a ≡ Some b → a ≡ b
      some-same a b e = cc

  -- once no words are left, all rows have moved
  pub walk-stops : (u : ℕ) (from to : Chunk) (old slots : List (BookSlot (Row P)))
      (before : List (Option ℕ)) (i left : ℕ) → MovesOn u from to old slots (Some i)
      → LinksBack old before from (Some i) left → left ≡ 0 → slots ≡ map (moved_slot from to) old
  walk-stops u from to old slots before i left m g none =
      let f : BookSlot (Row P) → BookSlot (Row P) = moved_slot from to in
      let own : AreOwnOn u from old =
      subst (λ (v : ℕ). AreOwnOn v from old) (one-loader u from to old slots before i left m g)
      g.own in
      let nothing : kept_on from (living (take m.k old)) ≡ [] =
      (front-last u from old m.k own).kept
      ∙ ap (λ (o : Option ℕ). kept_on from (rows_to o old)) (sym m.next_is)
      ∙ nothing-left old before from (Some i) left g none in
      let still : map f (take m.k old) ≡ take m.k old =
      none-on-moves from to (take m.k old) nothing in
      sym (take-append-drop m.k slots)
      ∙ ap₂ (λ (a b : List (BookSlot (Row P))). a ++ b) (m.front ∙ sym still) m.behind
      ∙ sym (map-append f (take m.k old) (drop m.k old))
      ∙ ap (map f) (take-append-drop m.k old)
