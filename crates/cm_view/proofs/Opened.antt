-- The rows of a view, as they were listed and sorted.
-- For `view_walked`, `View::open`.
use Rattle.std.proofs.Common.{◌≡◌, ℕ, List, get_or, Ok, Err, ap, subst}
use Rattle.std.proofs.Common.{◌∙◌}
use Rattle.std.specs.Prelude.{Result, IfErr}
use Rattle.std.specs.List.{AllByRecursion, All}
use Rattle.std.specs.List.Sorted.{IsPermutation}
use Rattle.std.proofs.lemmas.List.Elements.{All-from_recursion}
use Rattle.std.proofs.lemmas.List.Sorted.{All-permutation}
use Rattle.cm_layout.specs.declared.row.Row.{Row}
use Rattle.cm_verdict.specs.declared.defined_at.DefinedAt.{DefinedAt}
use Rattle.cm_verdict.specs.Found.{Found, found_in}
use Rattle.cm_view_index.specs.declared.row.ViewRow.{ViewRow}
use Rattle.cm_view_index.specs.Rows.{mark_of}
use Rattle.cm_view_index.specs.Index.{IsInOrder, IsIndexOf}
use Rattle.cm_view.specs.Listing.{IsGoodRow, marked_rows}
use Rattle.cm_view.specs.Exactness.{AreRowsOf}

pub if_err_map : {T E : Type 0} (r : Result T E) (P Q : E → Type 0) → ((e : E) → P e → Q e)
    → IfErr r P → IfErr r Q
if_err_map (Ok x) P Q f h = tt
if_err_map (Err e) P Q f h = f e h

module _ (bytes : List ℕ) (f : Found) (found : found_in bytes ≡ Ok f)
    (rows : List (Row DefinedAt)) (same : rows ≡ f.rows) (listed sorted : List ViewRow)
    (are : listed ≡ marked_rows bytes f.sizes rows) (good : AllByRecursion (IsGoodRow bytes) listed)
    (shuffled : IsPermutation listed sorted) where
  pub all_good : All (IsGoodRow bytes) sorted
  all_good =
      All-permutation (IsGoodRow bytes) listed sorted shuffled
      (All-from_recursion (IsGoodRow bytes) listed good)

  pub are_rows : AreRowsOf bytes f sorted
  are_rows = record {
    found_is = found;
    there = λ k d lt. (all_good k d lt).there;
    same = subst (λ (l : List ViewRow). IsPermutation l sorted)
        (are ∙ ap (marked_rows bytes f.sizes) same) shuffled;
  }

  pub is_index : IsInOrder bytes sorted → IsIndexOf bytes sorted
  is_index order = record {
    sorted = order;
    marked = λ k d name lt shown.
        let row = get_or sorted k d in
        let g = all_good k d lt in
        let one = g.shown in
        let named : g.name ≡ name = cc in
        g.mark ∙ ap (mark_of row.loader) named;
  }
