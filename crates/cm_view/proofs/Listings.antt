-- Classes and loaders that are listed row by row.
-- For `list_class`, `list_classes`, `list_loaders`.
use Rattle.std.proofs.Common.{◌≡◌, ℕ, ◌+◌, ◌*◌, ◌≤◌, List, [], ◌∷◌, ◌++◌, length, refl, sym, ap}
use Rattle.std.proofs.Common.{subst}
use Rattle.std.proofs.Common.{◌∙◌, arith, append_assoc}
use Rattle.std.specs.Prelude.{unwrap_or}
use Rattle.std.specs.List.{AllByRecursion}
use Rattle.std.proofs.lemmas.List.{append-nil}
use Rattle.cm_pool.specs.Geometry.{Sizes}
use Rattle.cm_pool.specs.declared.place.Place.{Place}
use Rattle.cm_layout.specs.declared.class_row.ClassRow.{ClassRow}
use Rattle.cm_layout.specs.declared.loader_row.LoaderRow.{LoaderRow}
use Rattle.cm_layout.specs.declared.row.Row.{Row}
use Rattle.cm_layout.specs.declared.row.Row.TheVariants.{Loader, Class}
use Rattle.cm_layout.specs.Offsets.{root_at, record_at}
use Rattle.cm_verdict.specs.declared.defined_at.DefinedAt.{DefinedAt}
use Rattle.cm_verdict.specs.Standing.{IsPlace, HasPlace}
use Rattle.cm_verdict.proofs.{short_enough}
use Rattle.cm_view_index.specs.declared.row.ViewRow.{ViewRow}
use Rattle.cm_view_index.specs.Rows.{IsMarked, name_of, mark_of}
use Rattle.cm_view.specs.declared.fault.ViewFault.{ViewFault}
use Rattle.cm_view.specs.declared.fault.ViewFault.TheVariants as view_fault
use Rattle.cm_view.specs.Taking.{IsThere}
use Rattle.cm_view.specs.Listing.{view_row, marked_rows, IsGoodRow, IsListed}
use Rattle.cm_view.specs.Listing.{IsRowFault, IsListFault}

-- ---- one class

-- in a whole root the record lies in the file
in_file : (sizes : Sizes) (place : Place) (long : ℕ) → IsPlace sizes place
    → root_at sizes (place.chunk.root + 1) ≤ long → record_at sizes place + 8 * place.words ≤ long
in_file sizes place long is whole = omega (arith, is.words, is.chunk, whole)

pub lies_there : (bytes : List ℕ) (sizes : Sizes) (r : ClassRow) (at : DefinedAt)
    → IsPlace sizes r.place → root_at sizes (r.place.chunk.root + 1) ≤ length bytes
    → IsThere bytes (view_row sizes r at)
lies_there bytes sizes r at is whole = record {
  within = in_file sizes r.place (length bytes) is whole;
  short = short_enough sizes r.place is;
}

pub listed_so : (bytes : List ℕ) (sizes : Sizes) (r : ClassRow) (at : DefinedAt)
    (old row : ViewRow) → old ≡ view_row sizes r at → IsMarked bytes old row
    → IsThere bytes (view_row sizes r at) → IsListed bytes sizes r at row
listed_so bytes sizes r at old row same marked there =
    let bare = view_row sizes r at in
    let m = subst (λ (o : ViewRow). IsMarked bytes o row) same marked in
    let named : name_of bytes bare ≡ m.name = ap (λ o. unwrap_or o []) m.shown in
    record {
      good = subst (IsGoodRow bytes) (sym m.is) (record {
        there = record { within = there.within; short = there.short };
        name = m.name;
        shown = m.shown;
        mark = refl;
      });
      is = m.is ∙ ap (λ (n : List ℕ). record bare { mark = mark_of r.loader n }) (sym named);
    }

-- ---- classes, one after another

-- the classes of some rows are listed, and these rows are left
pub record IsListing (bytes : List ℕ) (sizes : Sizes) (all rest : List (Row DefinedAt))
    (rows : List ViewRow) : Type 0 where
  pub done : List (Row DefinedAt)
  pub all_is : done ++ rest ≡ all
  pub listed : rows ++ marked_rows bytes sizes rest ≡ marked_rows bytes sizes all
  pub good : AllByRecursion (IsGoodRow bytes) rows
  pub places : AllByRecursion (HasPlace sizes) rest

pub listing_begins : (bytes : List ℕ) (sizes : Sizes) (all rest : List (Row DefinedAt))
    (rows : List ViewRow) → rest ≡ all → rows ≡ [] → AllByRecursion (HasPlace sizes) all
    → IsListing bytes sizes all rest rows
listing_begins bytes sizes all rest rows same none places = record {
  done = [];
  all_is = same;
  listed = (λ i. none i ++ marked_rows bytes sizes (same i));
  good = subst (AllByRecursion (IsGoodRow bytes)) (sym none) tt;
  places = subst (AllByRecursion (HasPlace sizes)) (sym same) places;
}

good_more : (P : ViewRow → Type 0) (rows : List ViewRow) (row : ViewRow) → AllByRecursion P rows
    → P row → AllByRecursion P (rows ++ row ∷ [])
good_more P [] row all one = (one, tt)
good_more P (x ∷ rows) row all one = (all.0, good_more P rows row all.1 one)

module _ (bytes : List ℕ) (sizes : Sizes) (all rest : List (Row DefinedAt))
    (rows : List ViewRow) where
  pub loader_passed : (r : LoaderRow) → IsListing bytes sizes all (Loader r ∷ rest) rows
      → IsListing bytes sizes all rest rows
  loader_passed r l = record {
    done = l.done ++ Loader r ∷ [];
    all_is = append_assoc l.done (Loader r ∷ []) rest ∙ l.all_is;
    listed = l.listed;
    good = l.good;
    places = l.places.1;
  }

  pub class_listed : (r : ClassRow) (at : DefinedAt) (row : ViewRow) (now : List ViewRow)
      → IsListing bytes sizes all (Class r at ∷ rest) rows → IsListed bytes sizes r at row
      → now ≡ rows ++ row ∷ [] → IsListing bytes sizes all rest now
  class_listed r at row now l one more = record {
    done = l.done ++ Class r at ∷ [];
    all_is = append_assoc l.done (Class r at ∷ []) rest ∙ l.all_is;
    listed =
        ap (λ (w : List ViewRow). w ++ marked_rows bytes sizes rest) more
        ∙ (append_assoc rows (row ∷ []) (marked_rows bytes sizes rest)
        ∙ (ap (λ (v : ViewRow). rows ++ v ∷ marked_rows bytes sizes rest) one.is ∙ l.listed));
    good = subst (AllByRecursion (IsGoodRow bytes)) (sym more)
        (good_more (IsGoodRow bytes) rows row l.good one.good);
    places = l.places.1;
  }

  pub class_refused : (r : ClassRow) (at : DefinedAt) (e : ViewFault)
      → IsListing bytes sizes all (Class r at ∷ rest) rows → IsRowFault bytes sizes r at e
      → IsListFault bytes sizes all e
  class_refused r at (view_fault.CutOff slot) l fault = record {
    row = r;
    at = at;
    among = record { before = l.done; after = rest; rows_are = sym l.all_is };
    fault = fault;
  }
  class_refused r at (view_fault.NoName slot) l fault = record {
    row = r;
    at = at;
    among = record { before = l.done; after = rest; rows_are = sym l.all_is };
    fault = fault;
  }
  class_refused r at (view_fault.File f) l fault = absurd fault
  class_refused r at (view_fault.SameName slot) l fault = absurd fault
  class_refused r at view_fault.NoMemory l fault = absurd fault

pub listing_ends : (bytes : List ℕ) (sizes : Sizes) (all rest : List (Row DefinedAt))
    (rows : List ViewRow) → rest ≡ [] → IsListing bytes sizes all rest rows
    → rows ≡ marked_rows bytes sizes all
listing_ends bytes sizes all rest rows none l =
    sym (append-nil rows)
    ∙ (ap (λ (w : List (Row DefinedAt)). rows ++ marked_rows bytes sizes w) (sym none) ∙ l.listed)
