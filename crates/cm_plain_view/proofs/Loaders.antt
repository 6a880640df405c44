-- Loaders as plain data are those of rows.
-- For `find_class`, `write_loaders`.
use Rattle.std.proofs.Common.{◌≡◌, ℕ, ◌+◌, ◌<◌, List, [], ◌∷◌, ◌++◌, length, map, take, set}
use Rattle.std.proofs.Common.{get_or, ap, sym, ◌∙◌, arith}
use Rattle.std.specs.Ordering.{is_lt, nat_cmp}
use Rattle.std.specs.Cmp.Lexicographic.{slice_cmp}
use Rattle.std.proofs.lemmas.List.{get_or-map, length-map, map-append, take_more, take_more_set}
use Rattle.cm_layout.specs.declared.loader_row.LoaderRow.{LoaderRow}
use Rattle.cm_view.specs.Loaders.{AreInOrder}
use Rattle.cm_view.specs.Loaders.{HasLoader as HasRow, HasNoLoader as HasNoRow}
use Rattle.cm_plain_view.specs.declared.loader.ViewLoader.{ViewLoader}
use Rattle.cm_plain_view.specs.Loaders.{loader_name, loader_row, AreSorted, HasLoader, HasNoLoader}

no_loader : ViewLoader
no_loader = record { number = 0; len = 0; name = [] }

-- the row of a loader at a place
row_at : (ls : List ViewLoader) (k : ℕ) (d : ViewLoader) (e : LoaderRow) → k < length ls
    → get_or (map loader_row ls) k e ≡ loader_row (get_or ls k d)
row_at ls k d e lt = get_or-map loader_row ls k d e lt

pub sorted_as : (ls : List ViewLoader) → AreInOrder (map loader_row ls) → AreSorted ls
sorted_as ls order k d low lt =
    let long : length (map loader_row ls) ≡ length ls = length-map ls loader_row in
    let e = loader_row d in
    let before = row_at ls k d e (omega arith) in
    let next = row_at ls (k + 1) d e lt in
    let is = order k e low (omega (arith, long)) in
    ap (λ (a : LoaderRow). is_lt (slice_cmp nat_cmp a.name (loader_name (get_or ls k d))))
    (sym next)
    ∙ ap (λ (b : LoaderRow).
    is_lt (slice_cmp nat_cmp (get_or (map loader_row ls) (k + 1) e).name b.name)) (sym before)
    ∙ is

pub has_row : (ls : List ViewLoader) (name : List ℕ) (u : ℕ) → HasLoader ls name u
    → HasRow (map loader_row ls) name u
has_row ls name u h =
    let long : length (map loader_row ls) ≡ length ls = length-map ls loader_row in
    let k = h.among.0 in
    record {
      loader = loader_row h.loader;
      among = (
        k,
        omega (arith, long, h.among.1),
        row_at ls k h.loader (loader_row h.loader) h.among.1 ∙ ap loader_row h.among.2,
      );
      named = h.named;
      number_is = h.number_is;
    }

pub no_row : (ls : List ViewLoader) (name : List ℕ) → HasNoLoader ls name
    → HasNoRow (map loader_row ls) name
unfolding no_loader
no_row ls name none k e lt named =
    let long : length (map loader_row ls) ≡ length ls = length-map ls loader_row in
    let inside : k < length ls = omega (arith, long, lt) in
    none k no_loader inside
    (ap (λ (r : LoaderRow). r.name) (sym (row_at ls k no_loader e inside)) ∙ named)

-- one more loader is written
pub written : (from : List LoaderRow) (to : List ViewLoader) (at : ℕ) (d : LoaderRow)
    (x : ViewLoader) → at < length from → at < length to
    → map loader_row (take at to) ≡ take at from → loader_row x ≡ get_or from at d
    → map loader_row (take (at + 1) (set to at x)) ≡ take (at + 1) from
written from to at d x lt fits so_far is =
    ap (map loader_row) (take_more_set to at x fits)
    ∙ map-append loader_row (take at to) (x ∷ [])
    ∙ ap (λ (l : List LoaderRow). l ++ loader_row x ∷ []) so_far
    ∙ ap (λ (r : LoaderRow). take at from ++ r ∷ []) is ∙ sym (take_more from at d lt)
