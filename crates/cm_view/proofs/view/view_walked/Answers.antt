use Rattle.std.proofs.Common.{List, [], sym, ap, subst, refl, ◌∙◌}
use Rattle.std.specs.List.{AllByRecursion}
use Rattle.std.specs.List.Sorted.{IsPermutation}
use Rattle.cm_layout.specs.declared.loader_row.LoaderRow.{LoaderRow}
use Rattle.cm_layout.specs.declared.row.Row.{Row}
use Rattle.cm_verdict.specs.declared.defined_at.DefinedAt.{DefinedAt}
use Rattle.cm_verdict.specs.Standing.{HasPlace}
use Rattle.cm_view_index.specs.declared.row.ViewRow.{ViewRow}
use Rattle.cm_view_index.specs.Index.{HasTwin, IsIndexOf, NamesDiffer}
use Rattle.cm_view.specs.Listing.{loaders_in}
use Rattle.cm_view.specs.Walking.{found_of}
use Rattle.cm_view.proofs.Standing.{all_placed}
use Rattle.cm_view.proofs.Opened.{all_good, are_rows, is_index}
use Rattle.cm_view.proofs.view.view_walked.Goals as goal

pub list_classes-requires : goal.list_classes-requires
list_classes-requires c =
    let f = found_of c.args.walked in
    let live = c.found_is_live.ensures c.args.bytes.now f c.requires in
    subst (λ (rows : List (Row DefinedAt)). AllByRecursion (HasPlace f.sizes) rows)
    (sym c.into_book-found.ensures)
    (all_placed f.sizes live.lawful f.number [] f.rows live.live)

pub returns-in-Some-clause-fault : goal.returns-in-Some-clause-fault
returns-in-Some-clause-fault c =
    let bytes = c.args.bytes.now in
    let f = found_of c.args.walked in
    let listed = c.in_ok-rows.ensures in
    let sorted = c.sort_rows.ensures in
    record {
      found = f;
      rows = c.sort_rows.new.rows.items;
      of = are_rows bytes f c.requires c.into_book-found.result.rows c.into_book-found.ensures
          c.in_ok-rows.rows.items c.sort_rows.new.rows.items listed.rows listed.good sorted.same;
      good = all_good bytes f c.requires c.into_book-found.result.rows c.into_book-found.ensures
          c.in_ok-rows.rows.items c.sort_rows.new.rows.items listed.rows listed.good sorted.same;
      row = c.in-Some.twin.now;
      twin = subst (λ (rows : List ViewRow). HasTwin bytes rows c.in-Some.twin.now)
          c.deref.ensures.value c.in-Some.ensures.some;
      slot_is = refl;
    }

pub returns-clause-opened : goal.returns-clause-opened
returns-clause-opened c =
    let bytes = c.args.bytes.now in
    let f = found_of c.args.walked in
    let listed = c.in_ok-rows.ensures in
    let sorted = c.sort_rows.ensures in
    let rows = c.sort_rows.new.rows.items in
    let index =
    is_index bytes f c.requires c.into_book-found.result.rows c.into_book-found.ensures
    c.in_ok-rows.rows.items rows listed.rows listed.good sorted.same sorted.order in
    record {
      found = f;
      rows = are_rows bytes f c.requires c.into_book-found.result.rows c.into_book-found.ensures
          c.in_ok-rows.rows.items rows listed.rows listed.good sorted.same;
      good = all_good bytes f c.requires c.into_book-found.result.rows c.into_book-found.ensures
          c.in_ok-rows.rows.items rows listed.rows listed.good sorted.same;
      index = index;
      differ = subst (λ (l : List ViewRow). IsIndexOf bytes l → NamesDiffer bytes l)
          c.deref.ensures.value c.in_default.ensures.none index;
      loaders =
          subst (λ (l : List LoaderRow). IsPermutation l c.sort_loaders.new.loaders.items)
          (c.in_ok-loaders.ensures ∙ ap loaders_in c.into_book-found.ensures)
          c.sort_loaders.ensures.same;
      in_order = c.sort_loaders.ensures.order;
      number_is = c.number-number.ensures;
    }
