-- What is counted, and what is left, after one more row.
-- For `usage_of`, `count_by`, `add_class`, `used_roots`, `owned_chunks`.
use Rattle.std.proofs.Common.{◌≡◌, ℕ, ◌≤◌, ◌^◌, ◌==◌, Bool, true, false, cond, List}
use Rattle.std.proofs.Common.{◌∷◌, length, filter, sym, ap, ◌∙◌, subst, eqb, Option, Some}
use Rattle.std.specs.Prelude.{unwrap_or}
use Rattle.std.specs.List.{AllByRecursion}
use Rattle.std.specs.BTreeMap.{BTreeMap, is_at}
use Rattle.std.specs.BTreeMap as tree
use Rattle.std.specs.Ordering.{nat_cmp}
use Rattle.std.specs.Cmp.{unsigned_tied}
use Rattle.std.proofs.lemmas.Bool.{eqb-true}
use Rattle.cm_layout.specs.declared.class_row.ClassRow.{ClassRow}
use Rattle.cm_layout.specs.declared.row.Row.{Row}
use Rattle.cm_layout.specs.declared.row.Row.TheVariants.{Loader, Class}
use Rattle.cm_layout.specs.Rows.{classes_in}
use Rattle.cm_statistics.specs.declared.usage.Usage.{Usage}
use Rattle.cm_statistics.specs.declared.among.Among.{Among}
use Rattle.cm_statistics.specs.declared.counting.By.{By}
use Rattle.cm_statistics.specs.Usage.{usage, is_among, AddUp, IsSmallRow, RowHasRoom, with_row}
use Rattle.cm_statistics.specs.Usage.{RowIsSmall, usage_kept, key_of, RowHasRoomIn, row_kept}
use Rattle.cm_statistics.specs.Usage.{with_class, no_usage}
use Rattle.cm_statistics.proofs.Sums.{one_more, room_for}

pub small-rest : {P : Type 0} (row : Row P) (left : List (Row P))
    → AllByRecursion IsSmallRow (classes_in (row ∷ left))
    → AllByRecursion IsSmallRow (classes_in left)
small-rest (Loader r) left small = small
small-rest (Class r p) left small = small.1

pub small-first : {P : Type 0} (row : Row P) (left : List (Row P))
    → AllByRecursion IsSmallRow (classes_in (row ∷ left)) → RowIsSmall row
small-first (Loader r) left small = tt
small-first (Class r p) left small = small.0

-- ---- those that are meant

module _ {P : Type 0} (among : Among) (all : List ClassRow) where
  abbrev meant : List (Row P) → Usage
  meant rows = usage (filter (is_among among) (classes_in rows))

  pub row-room : (row : Row P) (left : List (Row P)) (u : Usage)
      → AddUp u (meant (row ∷ left)) (usage (filter (is_among among) all))
      → AllByRecursion IsSmallRow (classes_in (row ∷ left)) → AllByRecursion IsSmallRow all
      → length all ≤ 2 ^ 16 → RowHasRoom u row
  row-room (Loader r) left u adds small each few = tt
  row-room (Class r p) left u adds small each few =
      (small.0, room_for (is_among among) (r ∷ classes_in left) all r u adds each few small.0)

  pub row-adds : (row : Row P) (left : List (Row P)) (u : Usage)
      → AddUp u (meant (row ∷ left)) (usage (filter (is_among among) all))
      → AddUp (with_row u among row) (meant left) (usage (filter (is_among among) all))
  row-adds (Loader r) left u adds = adds
  row-adds (Class r p) left u adds =
      one_more (is_among among) r (classes_in left) u (usage (filter (is_among among) all)) adds

-- ---- by a number

-- what the classes of the number k among these take
abbrev of_key : By → ℕ → List ClassRow → Usage
of_key b k rows = usage (filter (λ r. key_of b r == k) rows)

module _ {P : Type 0} (b : By) (all : List ClassRow) where
  abbrev Adds : BTreeMap ℕ Usage → List (Row P) → Type 0
  Adds m left = (k : ℕ) → AddUp (usage_kept m k) (of_key b k (classes_in left)) (of_key b k all)

  pub key-room : (row : Row P) (left : List (Row P)) (m : BTreeMap ℕ Usage)
      → Adds m (row ∷ left) → AllByRecursion IsSmallRow (classes_in (row ∷ left))
      → AllByRecursion IsSmallRow all → length all ≤ 2 ^ 16 → RowHasRoomIn m b row
  key-room (Loader r) left m adds small each few = tt
  key-room (Class r p) left m adds small each few = (
    small.0,
    room_for (λ x. key_of b x == key_of b r) (r ∷ classes_in left) all r
        (usage_kept m (key_of b r)) (adds (key_of b r)) each few small.0,
  )

  pub key-adds : (row : Row P) (left : List (Row P)) (m new : BTreeMap ℕ Usage)
      → ((k : ℕ) → usage_kept new k ≡ row_kept b (usage_kept m k) row k)
      → Adds m (row ∷ left) → Adds new left
  key-adds (Loader r) left m new is adds k =
      subst (λ (u : Usage). AddUp u (of_key b k (classes_in left)) (of_key b k all)) (sym (is k))
      (adds k)
  key-adds (Class r p) left m new is adds k =
      subst (λ (u : Usage). AddUp u (of_key b k (classes_in left)) (of_key b k all)) (sym (is k))
      (one_more (λ x. key_of b x == k) r (classes_in left) (usage_kept m k) (of_key b k all)
      (adds k))

-- ---- a map after one more class

pub kept-more : (old new : BTreeMap ℕ Usage) (key : ℕ) (r : ClassRow)
    → ((q : ℕ) → tree.get nat_cmp new q ≡ cond (is_at (nat_cmp key) q)
    (Some (with_class (usage_kept old key) r)) (tree.get nat_cmp old q))
    → (k : ℕ) → usage_kept new k
    ≡ cond (eqb key k) (with_class (usage_kept old k) r) (usage_kept old k)
kept-more old new key r is k =
    ap (λ (o : Option Usage). unwrap_or o no_usage) (is k)
    ∙ by_test (is_at (nat_cmp key) k) (unsigned_tied key k)
  where
    by_test : (t : Bool) → t ≡ eqb key k
        → unwrap_or (cond t (Some (with_class (usage_kept old key) r))
        (tree.get nat_cmp old k)) no_usage
        ≡ cond (eqb key k) (with_class (usage_kept old k) r) (usage_kept old k)
    by_test true e =
        let same : key ≡ k = eqb-true key k (sym e) in
        ap (λ (q : ℕ). with_class (usage_kept old q) r) same
        ∙ ap (λ (t : Bool). cond t (with_class (usage_kept old k) r) (usage_kept old k)) e
    by_test false e =
        ap (λ (t : Bool). cond t (with_class (usage_kept old k) r) (usage_kept old k)) e
