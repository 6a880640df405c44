-- The numbers of rows that a file stands for are small.
-- For `statistics`.
use Rattle.std.proofs.Common.{◌≡◌, ℕ, ◌+◌, ◌^◌, ◌≤◌, List, [], ◌∷◌, ◌++◌, length}
use Rattle.std.proofs.Common.{None, refl, ap, subst, arith, Bool, true, false, cond, Some}
use Rattle.std.specs.Prelude.{◌&&◌, nat_le, nat_lt, is_none}
use Rattle.std.specs.List.{AllByRecursion, list_all}
use Rattle.std.proofs.lemmas.Bool.{leb-true, and_parts}
use Rattle.std.proofs.Math.Nat.{pow-le-pow_right}
use Rattle.cm_pool.specs.Geometry.{Sizes, IsGeometry}
use Rattle.cm_layout.specs.declared.class_row.ClassRow.{ClassRow}
use Rattle.cm_layout.specs.declared.loader_row.LoaderRow.{LoaderRow}
use Rattle.cm_layout.specs.declared.row.Row.{Row}
use Rattle.cm_layout.specs.declared.row.Row.TheVariants.{Loader, Class}
use Rattle.cm_layout.specs.declared.entry_rule.EntryRule.TheVariants.{OnRows}
use Rattle.cm_layout.specs.Names.{is_loader_name, slots_of_name}
use Rattle.cm_layout.specs.Rows.{classes_in, bare, slots_of_rows}
use Rattle.cm_layout.specs.Rows.{slots_of_row, numbers_in, number_of}
use Rattle.cm_layout.specs.Rules.{row_limit, has_room, is_new_loader, broken_live_rule}
use Rattle.cm_layout.specs.Frames.{BareRow, LiveRowsKeep}
use Rattle.cm_layout.proofs.{class_keeps, slots-push, classes-bare}
use Rattle.cm_commit.proofs.{inside}
use Rattle.cm_statistics.specs.Usage.{AreSmall, IsSmallRow}

-- ---- each row

small_place : (sizes : Sizes) → IsGeometry sizes → (number : ℕ) (taken : List BareRow)
    (r : ClassRow) → broken_live_rule sizes number taken (Class r (tt {0})) ≡ None
    → IsSmallRow r
small_place sizes g number taken r keeps =
    let k = class_keeps sizes taken r keeps in
    let is = inside sizes r.place k.chunk k.within in
    let top : 2 ^ sizes.top ≤ 2 ^ 12 = pow-le-pow_right {n = 2} (omega arith) g.top_to in
    let most = g.top_to in
    let order = is.order in
    let small : r.place.chunk.order ≤ 12 = omega (arith, most, order) in
    let own : 2 ^ r.place.chunk.order ≤ 2 ^ 12 = pow-le-pow_right {n = 2} (omega arith) small in
    let words = is.words in
    let chunk = is.chunk in
    let roots = g.roots_to in
    let root = is.root in
    record {
      chunk = record {
        root = omega (arith, roots, root);
        order = small;
        at = omega (arith, chunk, top);
      };
      words = omega (arith, words, own);
    }

each-small : (sizes : Sizes) → IsGeometry sizes → (base : ℕ) (pre rows : List BareRow)
    → LiveRowsKeep sizes base pre rows → AllByRecursion IsSmallRow (classes_in rows)
each-small sizes g base pre [] k = tt
each-small sizes g base pre (Loader r ∷ rows) k =
    each-small sizes g base (pre ++ Loader r ∷ []) rows k.2
each-small sizes g base pre (Class r p ∷ rows) k =
    (small_place sizes g base pre r k.1, each-small sizes g base (pre ++ Class r p ∷ []) rows k.2)

-- ---- how many there are

no_rule : (t : Bool) → cond t None (Some OnRows) ≡ None → t ≡ true
no_rule true h = refl
no_rule false h = absurd (cc)

loader_room : (sizes : Sizes) (base : ℕ) (rows : List BareRow) (r : LoaderRow)
    → broken_live_rule sizes base rows (Loader r) ≡ None → has_room sizes rows (Loader r) ≡ true
loader_room sizes base rows r h =
    let past = nat_le 1 r.number && nat_le r.number base
    && list_all (λ u. nat_lt u r.number) (numbers_in rows) in
    let own = is_loader_name r.name && is_none (number_of r.name rows) in
    let new = is_new_loader sizes rows r in
    (and_parts own (has_room sizes rows (Loader r))
    (and_parts past new (no_rule (past && new) h)).1).1

room : (sizes : Sizes) (base : ℕ) (rows : List BareRow) (row : BareRow)
    → broken_live_rule sizes base rows row ≡ None
    → slots_of_rows rows + slots_of_row row ≤ row_limit sizes
room sizes base rows (Loader r) h =
    leb-true (slots_of_rows rows + slots_of_name r.name) (row_limit sizes)
    (loader_room sizes base rows r h)
room sizes base rows (Class r p) h =
    leb-true (slots_of_rows rows + 1) (row_limit sizes) (class_keeps sizes rows r h).room

live-few : (sizes : Sizes) (base : ℕ) (pre rows : List BareRow)
    → slots_of_rows pre ≤ row_limit sizes → LiveRowsKeep sizes base pre rows
    → slots_of_rows pre + slots_of_rows rows ≤ row_limit sizes
live-few sizes base pre [] few k = omega (arith, few)
live-few sizes base pre (row ∷ rows) few k =
    let push = slots-push pre row in
    let here = room sizes base pre row k.1 in
    let rest = live-few sizes base (pre ++ row ∷ []) rows (omega (arith, push, here)) k.2 in
    omega (arith, push, rest)

class-slots : (rows : List BareRow) → length (classes_in rows) ≤ slots_of_rows rows
class-slots [] = omega arith
class-slots (Loader r ∷ rows) = let rest = class-slots rows in omega (arith, rest)
class-slots (Class r p ∷ rows) = let rest = class-slots rows in omega (arith, rest)

-- ---- the rows of a file

pub are_small : {P : Type 0} (sizes : Sizes) → IsGeometry sizes → (base : ℕ)
    (rows : List (Row P)) → LiveRowsKeep sizes base [] (bare rows) → AreSmall rows
are_small sizes g base rows k =
    let few = live-few sizes base [] (bare rows) (omega arith) k in
    let classes = class-slots (bare rows) in
    let same = ap (λ (l : List ClassRow). length l) (classes-bare rows) in
    let slots = g.slots_to in
    let half : row_limit sizes ≤ sizes.slots = omega arith in
    record {
      few = omega (arith, few, classes, same, slots, half);
      each = subst (AllByRecursion IsSmallRow) (classes-bare rows)
          (each-small sizes g base [] (bare rows) k);
    }
