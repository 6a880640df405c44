-- Rows in memory while they are gathered.
use Rattle.std.specs.Prelude.{◌≡◌, ℕ, ◌==◌, if◌then◌else◌, List, [], ◌∷◌, map as map_list}
use Rattle.std.specs.Prelude.{Option, Some, None}
use Rattle.std.specs.BTreeMap as tree
use Rattle.std.specs.BTreeMap.{BTreeMap}
use Rattle.std.specs.FinMap as map
use Rattle.std.specs.Ordering.{nat_cmp}
use Rattle.std.specs.Cmp.Lexicographic.{slice_cmp}
use Rattle.std.specs.Global.{Vec}
use Rattle.cm_record.specs.Names.{class_name_in}
use Rattle.cm_layout.specs.declared.row.Row.{Row}
use Rattle.cm_layout.specs.declared.row.Row.TheVariants.{Loader, Class}
use Rattle.cm_state.specs.State.{ByName, classes_of}
use Rattle.cm_maintenance.specs.declared.gathered.Gathered.{Gathered}
use Rattle.cm_maintenance.specs.Listing.{placed, listed_shows}

-- entries by the bytes of their keys
abbrev pub by_bytes : {X : Type 0} → List (Vec ℕ × X) → List (List ℕ × X)
by_bytes es = map_list (λ e. (e.0.items, e.1)) es

-- the entries with one more in its place
abbrev pub entry_put : {X : Type 0} → List ℕ → X → List (List ℕ × X) → List (List ℕ × X)
entry_put name x es = map.put (slice_cmp nat_cmp) name x es

-- the classes that are kept of a loader
abbrev pub classes_kept : {X : Type 0} → Option (BTreeMap (Vec ℕ) X) → List (List ℕ × X)
classes_kept None = []
classes_kept (Some classes) = by_bytes classes.entries

abbrev pub kept_of : {X : Type 0} → BTreeMap ℕ (BTreeMap (Vec ℕ) X) → ℕ → List (List ℕ × X)
kept_of classes u = classes_kept (tree.get nat_cmp classes u)

-- one more class in the loader of this number
pub record AddsClass {X : Type 0} (old new : BTreeMap ℕ (BTreeMap (Vec ℕ) X)) (u : ℕ)
    (name : List ℕ) (c : X) : Type 0 where
  pub each : (v : ℕ) → kept_of new v
      ≡ (if u == v then entry_put name c (kept_of old v) else kept_of old v)

-- one more row
abbrev pub Adds : Row (List ℕ) → Gathered → Gathered → Type 0
Adds (Loader r) old new =
    (by_bytes new.numbers.entries ≡ entry_put r.name r.number (by_bytes old.numbers.entries))
    × (new.classes ≡ old.classes)
Adds (Class r words) old new =
    (new.numbers ≡ old.numbers)
    × AddsClass old.classes new.classes r.loader (class_name_in words)
    (record { class = words; place = r.place })

-- the numbers of the loaders among rows, by name
abbrev pub numbers_among : {A : Type 0} → List (Row A) → ByName ℕ
numbers_among [] = map.empty
numbers_among (Loader r ∷ rows) = map.insert (numbers_among rows) r.name r.number
numbers_among (Class r c ∷ rows) = numbers_among rows

-- these rows are gathered
pub record Gathers (rows : List (Row (List ℕ))) (g : Gathered) : Type 0 where
  pub numbers : by_bytes g.numbers.entries ≡ map.entries (numbers_among rows)
  pub classes : (u : ℕ) → kept_of g.classes u
      ≡ map.entries (classes_of listed_shows u (placed rows))
