-- Maps in memory and finite maps: their entries by the bytes of their keys.
-- For `Gathered::add_class`, `Gathered::add_loader`, `classes_of`.
use Rattle.std.proofs.Common.{◌≡◌, ℕ, Bool, true, false, cond, List, [], ◌∷◌, map, Option, Some}
use Rattle.std.proofs.Common.{None, refl, sym, ap, ◌∙◌, eqb, length, arith}
use Rattle.std.specs.BTreeMap.{BTreeMap, insert_entry, is_at}
use Rattle.std.specs.BTreeMap as tree
use Rattle.std.specs.Map.{values_of}
use Rattle.std.specs.FinMap.{entries, empty, len-entries, len-empty}
use Rattle.std.specs.Global.{Vec}
use Rattle.std.specs.Ordering.{nat_cmp, match_ordering}
use Rattle.std.specs.declared.cmp.Ordering.{Ordering}
use Rattle.std.specs.declared.cmp.Ordering.TheVariants.{Less, Equal, Greater}
use Rattle.std.specs.Cmp.{unsigned_tied}
use Rattle.std.specs.Cmp.Lexicographic.{slice_cmp}
use Rattle.std.specs.FinMap.Entries.{by_order}
use Rattle.std.proofs.lemmas.Bool.{eqb-true}
use Rattle.cm_maintenance.specs.Gathered.{by_bytes, entry_put, classes_kept, kept_of, AddsClass}

abbrev pub vec_cmp : Vec ℕ → Vec ℕ → Ordering
vec_cmp a b = slice_cmp nat_cmp a.items b.items

pub by_bytes-insert : {X : Type 0} (es : List (Vec ℕ × X)) (k : Vec ℕ) (v : X)
    → by_bytes (insert_entry vec_cmp es k v) ≡ entry_put k.items v (by_bytes es)
by_bytes-insert [] k v = refl
by_bytes-insert {X} (e ∷ es) k v =
    by_place (slice_cmp nat_cmp k.items e.0.items) (by_bytes-insert es k v)
  where
    by_place : (o : Ordering)
        → by_bytes (insert_entry vec_cmp es k v) ≡ entry_put k.items v (by_bytes es)
        → by_bytes (match_ordering o ((k, v) ∷ e ∷ es) ((e.0, v) ∷ es)
        (e ∷ insert_entry vec_cmp es k v))
        ≡ by_order o ((k.items, v) ∷ by_bytes (e ∷ es)) ((e.0.items, v) ∷ by_bytes es)
        ((e.0.items, e.1) ∷ entry_put k.items v (by_bytes es))
    by_place Less rest = refl
    by_place Equal rest = refl
    by_place Greater rest = ap (λ (l : List (List ℕ × X)). (e.0.items, e.1) ∷ l) rest

pub values-by_bytes : {X : Type 0} (es : List (Vec ℕ × X))
    → map (λ e. e.1) (by_bytes es) ≡ values_of es
values-by_bytes [] = refl
values-by_bytes {X} (e ∷ es) = ap (λ (l : List X). e.1 ∷ l) (values-by_bytes es)

-- a loader's classes are taken out, and put back with one more
pub adds_class : {X : Type 0} (old mid new : BTreeMap ℕ (BTreeMap (Vec ℕ) X)) (u : ℕ) (k : Vec ℕ)
    (name : List ℕ) (v : X) (taken more : BTreeMap (Vec ℕ) X)
    → by_bytes taken.entries ≡ kept_of old u
    → ((q : ℕ) → tree.get nat_cmp mid q
    ≡ cond (is_at (nat_cmp u) q) None (tree.get nat_cmp old q))
    → more.entries ≡ insert_entry vec_cmp taken.entries k v
    → ((q : ℕ) → tree.get nat_cmp new q
    ≡ cond (is_at (nat_cmp u) q) (Some more) (tree.get nat_cmp mid q))
    → k.items ≡ name → AddsClass old new u name v
adds_class {X} old mid new u k name v taken more front out grown back named = record {
  each = λ q. ap classes_kept (back q)
      ∙ (ap (λ (o : Option (BTreeMap (Vec ℕ) X)). classes_kept
      (cond (is_at (nat_cmp u) q) (Some more) o)) (out q)
      ∙ by_test q (is_at (nat_cmp u) q) (unsigned_tied u q));
}
  where
    there : by_bytes more.entries ≡ entry_put name v (kept_of old u)
    there =
        ap by_bytes grown ∙ (by_bytes-insert taken.entries k v
        ∙ ((λ i. entry_put (named i) v (front i))))

    by_test : (q : ℕ) (t : Bool) → t ≡ eqb u q
        → classes_kept (cond t (Some more) (cond t None (tree.get nat_cmp old q)))
        ≡ cond (eqb u q) (entry_put name v (kept_of old q)) (kept_of old q)
    by_test q true is =
        let same : u ≡ q = eqb-true u q (sym is) in
        there ∙ (ap (λ (w : ℕ). entry_put name v (kept_of old w)) same
        ∙ ap (λ t. cond t (entry_put name v (kept_of old q)) (kept_of old q)) is)
    by_test q false is = ap (λ t. cond t (entry_put name v (kept_of old q)) (kept_of old q)) is

-- ---- finite maps

no_entry : {K X : Type 0} (es : List (K × X)) → length es ≡ 0 → es ≡ []
no_entry [] e = refl
no_entry (x ∷ es) e = absurd (omega (arith, e))

pub entries-empty : (X : Type 0) → entries (empty {X = X} {R = slice_cmp nat_cmp}) ≡ []
entries-empty X =
    no_entry (entries (empty {X = X} {R = slice_cmp nat_cmp}))
    (sym (len-entries (empty {X = X} {R = slice_cmp nat_cmp})) ∙ len-empty (slice_cmp nat_cmp) X)

-- the entries with something made of each value
pub put-map : {X Y : Type 0} (f : X → Y) (k : List ℕ) (v : X) (es : List (List ℕ × X))
    → map (λ e. (e.0, f e.1)) (entry_put k v es) ≡ entry_put k (f v) (map (λ e. (e.0, f e.1)) es)
put-map f k v [] = refl
put-map {X} {Y} f k v (e ∷ es) = by_place (slice_cmp nat_cmp k e.0) (put-map f k v es)
  where
    by_place : (o : Ordering)
        → map (λ (e : List ℕ × X). (e.0, f e.1)) (entry_put k v es)
        ≡ entry_put k (f v) (map (λ (e : List ℕ × X). (e.0, f e.1)) es)
        → map (λ (e : List ℕ × X). (e.0, f e.1))
        (by_order o ((k, v) ∷ e ∷ es) ((e.0, v) ∷ es) (e ∷ entry_put k v es))
        ≡ by_order o ((k, f v) ∷ map (λ (e : List ℕ × X). (e.0, f e.1)) (e ∷ es))
        ((e.0, f v) ∷ map (λ (e : List ℕ × X). (e.0, f e.1)) es)
        ((e.0, f e.1) ∷ entry_put k (f v) (map (λ (e : List ℕ × X). (e.0, f e.1)) es))
    by_place Less rest = refl
    by_place Equal rest = refl
    by_place Greater rest = ap (λ (l : List (List ℕ × Y)). (e.0, f e.1) ∷ l) rest
