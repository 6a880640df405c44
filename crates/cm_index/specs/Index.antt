-- Rows by name: an index sorted by fingerprint, owner and name, and what it finds.
use Rattle.std.specs.Prelude.{◌≡◌, ◌≤◌, ◌<◌, ℕ, suc, List, [], ◌∷◌, map, length, take, drop, Option}
use Rattle.std.specs.Prelude.{Some, None, Bool, true, false, ◌==◌, ◌&&◌, if◌then◌else◌, ◌*◌, get_or}
use Rattle.std.specs.Prelude.{slice_set}
use Rattle.std.specs.List.{find, slice_get, HoldsAt, AllByRecursion}
use Rattle.std.specs.Option.{option_map_or}
use Rattle.std.specs.Str.{bytes_eq}
use Rattle.std.specs.Ordering.{nat_cmp}
use Rattle.std.specs.Cmp.Lexicographic.{slice_cmp}
use Rattle.std.specs.declared.cmp.Ordering.TheVariants.{Less, Equal, Greater}
use Rattle.cm_pool.specs.Geometry.{Sizes}
use Rattle.cm_pool.specs.Lists.{Among, Pairwise}
use Rattle.cm_layout.specs.declared.loader_row.LoaderRow.{LoaderRow}
use Rattle.cm_layout.specs.declared.row.Row.{Row}
use Rattle.cm_layout.specs.declared.row.Row.TheVariants.{Loader, Class}
use Rattle.cm_layout.specs.Rules.{row_limit}
use Rattle.cm_index.specs.declared.index.IndexEntry.{IndexEntry}
use Rattle.cm_index.specs.declared.slot.BookSlot.{BookSlot}
use Rattle.cm_index.specs.Living.{living}

-- the owner of a row: none for a loader, the loader for a class
abbrev pub owner_of : {P : Type 0} → Row P → Option ℕ
owner_of (Loader r) = None
owner_of (Class r p) = Some r.loader

-- no owner comes before all loaders
abbrev pub rank : Option ℕ → ℕ
rank None = 0
rank (Some u) = suc u

-- the name of the loader or of the class; `name_of` gives the name of the class of which something
-- is kept
abbrev pub name_in : {P : Type 0} → (P → List ℕ) → Row P → List ℕ
name_in name_of (Loader r) = r.name
name_in name_of (Class r p) = name_of p

-- the row belongs to this owner, and has this name
abbrev pub is_named : {P : Type 0} → (P → List ℕ) → ℕ → List ℕ → Row P → Bool
is_named name_of o x row = (rank (owner_of row) == o) && bytes_eq (name_in name_of row) x

-- a loader's number, and what is kept of a class
abbrev pub number_in : {P : Type 0} → Option (Row P) → Option ℕ
number_in None = None
number_in (Some (Loader r)) = Some r.number
number_in (Some (Class r p)) = None

abbrev pub kept_in : {P : Type 0} → Option (Row P) → Option P
kept_in None = None
kept_in (Some (Loader r)) = None
kept_in (Some (Class r p)) = Some p

-- what is kept of the first class of this name in the loader of this number; `name_of` gives the
-- name of the class of which something is kept
abbrev pub class_of : {P : Type 0} → (P → List ℕ) → ℕ → List ℕ → List (Row P) → Option P
class_of name_of u x [] = None
class_of name_of u x (Loader r ∷ rows) = class_of name_of u x rows
class_of name_of u x (Class r p ∷ rows) =
    if (r.loader == u) && bytes_eq (name_of p) x then Some p else class_of name_of u x rows

-- the key by which an index is sorted: the fingerprint, the owner, the name
abbrev pub key : (ℕ → List ℕ → ℕ) → ℕ → List ℕ → List ℕ
key mark o x = mark o x ∷ o ∷ x

abbrev pub tail_at : {P : Type 0} → (P → List ℕ) → Option (BookSlot (Row P)) → List ℕ
tail_at name_of None = []
tail_at name_of (Some s) = rank (owner_of s.item) ∷ name_in name_of s.item

abbrev pub key_at : {P : Type 0} → (P → List ℕ) → List (BookSlot (Row P)) → IndexEntry → List ℕ
key_at name_of slots e = e.fingerprint ∷ tail_at name_of (slice_get slots e.at)

abbrev pub keys_at : {P : Type 0} → (P → List ℕ) → List (BookSlot (Row P)) → List IndexEntry
    → List (List ℕ)
keys_at name_of slots es = map (key_at name_of slots) es

-- each key is below those after it
abbrev pub Rise : List (List ℕ) → Type 0
Rise keys = Pairwise (λ a b. slice_cmp nat_cmp a b ≡ Less) keys

-- the entry leads to a live row
abbrev pub leads_to_life : {P : Type 0} → List (BookSlot (Row P)) → IndexEntry → Bool
leads_to_life slots e = option_map_or (λ s. s.live) (slice_get slots e.at) false

-- the entry leads to a row, and if that lives, it is the first live row of its owner and name
pub record IsEntry {P : Type 0} (mark : ℕ → List ℕ → ℕ) (name_of : P → List ℕ)
    (slots : List (BookSlot (Row P))) (e : IndexEntry) : Type 0 where
  pub slot : BookSlot (Row P)
  pub there : slice_get slots e.at ≡ Some slot
  pub fingerprint : e.fingerprint ≡ mark (rank (owner_of slot.item)) (name_in name_of slot.item)
  pub first : slot.live ≡ true
      → find (is_named name_of (rank (owner_of slot.item)) (name_in name_of slot.item))
      (living slots) ≡ Some slot.item

-- an entry of this key leads to a live row
pub record ReachesRow {P : Type 0} (name_of : P → List ℕ) (slots : List (BookSlot (Row P)))
    (es : List IndexEntry) (k : List ℕ) : Type 0 where
  pub entry : IndexEntry
  pub among : Among entry es
  pub key_is : key_at name_of slots entry ≡ k
  pub lives : leads_to_life slots entry ≡ true

-- the index leads to the first live row of each owner and name; at most one entry may be left for
-- an owner and name that no live row has
pub record IsIndex {P : Type 0} (mark : ℕ → List ℕ → ℕ) (name_of : P → List ℕ)
    (slots : List (BookSlot (Row P))) (es : List IndexEntry) : Type 0 where
  pub each : AllByRecursion (IsEntry mark name_of slots) es
  pub rises : Rise (keys_at name_of slots es)
  pub complete : (o : ℕ) (x : List ℕ) (row : Row P)
      → find (is_named name_of o x) (living slots) ≡ Some row
      → ReachesRow name_of slots es (key mark o x)
  pub few : length es ≤ length slots

-- the entry at this place has this key
pub record IsKeyAt {P : Type 0} (name_of : P → List ℕ) (slots : List (BookSlot (Row P)))
    (es : List IndexEntry) (place : ℕ) (k : List ℕ) : Type 0 where
  pub within : place < length es
  pub key_is : HoldsAt (λ e. slice_cmp nat_cmp (key_at name_of slots e) k ≡ Equal) es place

-- the item at this place lives
pub record LivesAt {X : Type 0} (slots : List (BookSlot X)) (at : ℕ) : Type 0 where
  pub is : (d : BookSlot X) → (get_or slots at d).live ≡ true

-- the entry is put in the place of one that leads to a dead row
abbrev pub renewed : {P : Type 0} → List (BookSlot (Row P)) → List IndexEntry → ℕ → IndexEntry
    → List IndexEntry
renewed slots es place e =
    if leads_to_life slots (get_or es place e) then es else slice_set es place e

-- a key is below another, or above it
abbrev pub Below : List ℕ → List ℕ → Type 0
Below k a = slice_cmp nat_cmp a k ≡ Less

abbrev pub Above : List ℕ → List ℕ → Type 0
Above k a = slice_cmp nat_cmp a k ≡ Greater

-- the keys before this place are below this one, and the others above it
pub record SplitsKeys (keys : List (List ℕ)) (place : ℕ) (k : List ℕ) : Type 0 where
  pub within : place ≤ length keys
  pub below : AllByRecursion (Below k) (take place keys)
  pub above : AllByRecursion (Above k) (drop place keys)

-- no two live loaders have the same name
pub record AreUnique {P : Type 0} (rows : List (Row P)) : Type 0 where
  pub names : (r s : LoaderRow) → Among (Loader r) rows → Among (Loader s) rows → r.name ≡ s.name
      → r.number ≡ s.number

-- an index of the rows, with room for all places
pub record HasIndex {P : Type 0} (mark : ℕ → List ℕ → ℕ) (name_of : P → List ℕ)
    (sizes : Sizes) (slots : List (BookSlot (Row P))) (es : List IndexEntry)
    (capacity places : ℕ) : Type 0 where
  pub index : IsIndex mark name_of slots es
  pub unique : AreUnique (living slots)
  pub room : 2 * row_limit sizes ≤ capacity
  pub places_room : 2 * row_limit sizes ≤ places
