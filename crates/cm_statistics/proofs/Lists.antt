-- Lists made row by row.
-- For `usage_by_loader`, `owned_chunks`.
use Rattle.std.proofs.Common.{◌≡◌, ℕ, ◌==◌, Bool, true, false}
use Rattle.std.proofs.Common.{cond, List, [], ◌∷◌, ◌++◌, map, filter}
use Rattle.std.proofs.Common.{refl, sym, ap, ◌∙◌, append_assoc, Some, None}
use Rattle.std.specs.List.{AllByRecursion}
use Rattle.std.proofs.lemmas.List.{map-append}
use Rattle.cm_layout.specs.declared.class_row.ClassRow.{ClassRow}
use Rattle.cm_layout.specs.declared.loader_row.LoaderRow.{LoaderRow}
use Rattle.cm_layout.specs.declared.row.Row.{Row}
use Rattle.cm_layout.specs.declared.row.Row.TheVariants.{Loader, Class}
use Rattle.cm_layout.specs.Rows.{classes_in}
use Rattle.cm_statistics.specs.declared.usage.Usage.{Usage}
use Rattle.cm_statistics.specs.declared.by_loader.LoaderUse.{LoaderUse}
use Rattle.cm_statistics.specs.declared.chunks.OwnedChunk.{OwnedChunk}
use Rattle.cm_statistics.specs.Usage.{usage, LoaderShown, loader_shown, loader_use}
use Rattle.cm_statistics.specs.Usage.{owned_chunk, begins, IsSmallRow, chunk_begun}
use Rattle.cm_statistics.specs.Usage.{chunk_key, of_loader}
use Rattle.cm_statistics.proofs.Keys.{on_key}

-- one more at the end of a list whose next it is
next-in : {X : Type 0} (out : List X) (x y : X) (rest all : List X) → y ≡ x
    → out ++ x ∷ rest ≡ all → (out ++ y ∷ []) ++ rest ≡ all
next-in out x y rest all same made =
    append_assoc out (y ∷ []) rest ∙ (ap (λ z. out ++ z ∷ rest) same ∙ made)

pub next-loader : (classes : List ClassRow) (r : LoaderRow) (left : List LoaderRow)
    (out : List LoaderUse) (l : LoaderUse) (all : List LoaderShown) (u : Usage)
    → loader_shown l ≡ record { number = r.number; name = r.name; usage = u }
    → u ≡ usage (of_loader r.number classes)
    → map loader_shown out ++ map (loader_use classes) (r ∷ left) ≡ all
    → map loader_shown (out ++ l ∷ []) ++ map (loader_use classes) left ≡ all
next-loader classes r left out l all u shown kept made =
    ap (λ (ls : List LoaderShown). ls ++ map (loader_use classes) left)
    (map-append loader_shown out (l ∷ []))
    ∙ next-in (map loader_shown out) (loader_use classes r) (loader_shown l)
    (map (loader_use classes) left) all
    (shown ∙ ap (λ (v : Usage). record { number = r.number; name = r.name; usage = v }) kept)
    made

-- what is pushed is the chunk that the row begins, if it begins one
pub next-chunk : (classes : List ClassRow) (kept : ℕ → Usage) (r : ClassRow)
    (left : List ClassRow) (out : List OwnedChunk) (all : List OwnedChunk)
    → AllByRecursion IsSmallRow classes → IsSmallRow r
    → ((k : ℕ) → kept k ≡ usage (filter (λ x. chunk_key x.place.chunk == k) classes))
    → out ++ map (owned_chunk classes) (filter begins (r ∷ left)) ≡ all → (c : OwnedChunk)
    → begins r ≡ true
    → c ≡ record {
      loader = r.loader;
      chunk = r.place.chunk;
      used = (kept (chunk_key r.place.chunk)).used;
    }
    → (out ++ c ∷ []) ++ map (owned_chunk classes) (filter begins left) ≡ all
next-chunk classes kept r left out all each small is made c first made_of =
    next-in out (owned_chunk classes r) c (map (owned_chunk classes) (filter begins left)) all
    (made_of ∙ ap (λ (u : Usage). record {
      loader = r.loader;
      chunk = r.place.chunk;
      used = u.used;
    }) (is (chunk_key r.place.chunk)
    ∙ ap usage (on_key r.place.chunk classes small.chunk each)))
    (sym (ap (λ (t : Bool). out ++ map (owned_chunk classes)
    (cond t (r ∷ filter begins left) (filter begins left))) first) ∙ made)

pub no-chunk : (classes : List ClassRow) (r : ClassRow) (left : List ClassRow)
    (out all : List OwnedChunk)
    → out ++ map (owned_chunk classes) (filter begins (r ∷ left)) ≡ all → begins r ≡ false
    → out ++ map (owned_chunk classes) (filter begins left) ≡ all
no-chunk classes r left out all made none =
    sym (ap (λ (t : Bool). out ++ map (owned_chunk classes)
    (cond t (r ∷ filter begins left) (filter begins left))) none) ∙ made

-- ---- by rows

some-begun : (t : Bool) (x c : OwnedChunk) → cond t (Some x) None ≡ Some c
    → (t ≡ true) × (c ≡ x)
some-begun true x c e = (refl, cc)
some-begun false x c e = absurd (cc)

none-begun : (t : Bool) (x : OwnedChunk) → cond t (Some x) None ≡ None → t ≡ false
none-begun true x e = absurd (cc)
none-begun false x e = refl

pub pushed : {P : Type 0} (classes : List ClassRow) (kept : ℕ → Usage) (row : Row P)
    (left : List (Row P)) (out all : List OwnedChunk) → AllByRecursion IsSmallRow classes
    → AllByRecursion IsSmallRow (classes_in (row ∷ left))
    → ((k : ℕ) → kept k ≡ usage (filter (λ x. chunk_key x.place.chunk == k) classes))
    → out ++ map (owned_chunk classes) (filter begins (classes_in (row ∷ left))) ≡ all
    → (c : OwnedChunk) → chunk_begun kept row ≡ Some c
    → (out ++ c ∷ []) ++ map (owned_chunk classes) (filter begins (classes_in left)) ≡ all
pushed classes kept (Loader r) left out all each small is made c begun = absurd (cc)
pushed classes kept (Class r p) left out all each small is made c begun =
    let b = some-begun (begins r) (record {
      loader = r.loader;
      chunk = r.place.chunk;
      used = (kept (chunk_key r.place.chunk)).used;
    }) c begun in
    next-chunk classes kept r (classes_in left) out all each small.0 is made c b.0 b.1

pub passed : {P : Type 0} (classes : List ClassRow) (kept : ℕ → Usage) (row : Row P)
    (left : List (Row P)) (out all : List OwnedChunk)
    → out ++ map (owned_chunk classes) (filter begins (classes_in (row ∷ left))) ≡ all
    → chunk_begun kept row ≡ None
    → out ++ map (owned_chunk classes) (filter begins (classes_in left)) ≡ all
passed classes kept (Loader r) left out all made none = made
passed classes kept (Class r p) left out all made none =
    no-chunk classes r (classes_in left) out all made (none-begun (begins r) (record {
      loader = r.loader;
      chunk = r.place.chunk;
      used = (kept (chunk_key r.place.chunk)).used;
    }) none)
