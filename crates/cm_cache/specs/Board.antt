-- The Board: up to which number commands are durable, and whether the device failed.
use Rattle.std.specs.Prelude.{◌≡◌, ℕ, ◌≤◌, ◌==◌, not, Bool, true, false, List, [], ◌∷◌, ◌++◌}
use mathlib.Core.Option.{some}
use lib.ListN.{get_elem?}
use Rattle.atomic_table.specs.Table.{State, Me}
use Rattle.cm_pool.specs.Geometry.{Sizes}
use Rattle.cm_layout.specs.declared.row.Row.{Row}
use Rattle.cm_commit.specs.States.{ShowsCache}
use Rattle.cm_cache.specs.declared.board_view.Seen.{Seen}
use Rattle.cm_cache.specs.declared.board_view.BoardView.{BoardView}
use Rattle.cm_cache.specs.declared.board_view.Load.{Load}
use Rattle.cm_cache.specs.declared.board_view.Load.TheVariants.{Number, Broken}

-- ---- words

abbrev pub flag_of : Bool → ℕ
flag_of true = 1
flag_of false = 0

abbrev pub is_set : ℕ → Bool
is_set word = not (word == 0)

-- ---- what its users know

-- a user that has found this number, has heard of nobody, and has loaded nothing since
abbrev pub user : Bool → ℕ → BoardView
user posts number = record {
  posts = posts;
  number = number;
  broken = false;
  heard_number = 0;
  heard_broken = false;
  loads = [];
}

abbrev pub poster : ℕ → BoardView
poster number = user true number

abbrev pub reader : ℕ → BoardView
reader number = user false number

-- the view of the writer, once it has heard what a reader has seen
abbrev pub hearing : BoardView → BoardView → BoardView
hearing v w = record v { heard_number = w.number; heard_broken = w.broken }

-- the view as contracts describe it
abbrev pub seen_by : BoardView → Seen
seen_by v = record { receipt = record { number = v.number }; broken = v.broken }

-- a reader as contracts describe it: what it has seen last, and all that it loaded
pub record ReaderState : Type 0 where
  pub seen : Seen
  pub loads : List Load

abbrev pub reader_of : BoardView → ReaderState
reader_of v = record { seen = seen_by v; loads = v.loads }

-- all that was loaded, once a look has loaded the flag and then the number
abbrev pub loads_after : List Load → Seen → List Load
loads_after loads seen = (loads ++ Broken seen.broken ∷ []) ++ Number seen.receipt.number ∷ []

abbrev pub looked_at : ReaderState → Seen → ReaderState
looked_at r seen = record { seen = seen; loads = loads_after r.loads seen }

-- nothing that was loaded is forgotten
abbrev pub HasLoadedSince : List Load → List Load → Type 0
HasLoadedSince old new = (more : List Load) × (new ≡ old ++ more)

-- the last look of the new loads found this, and was made after the old ones
abbrev pub HasLookedSince : List Load → Seen → List Load → Type 0
HasLookedSince old seen new = (more : List Load) × (new ≡ loads_after (old ++ more) seen)

-- ---- the rule

-- One user writes, and knows what is on the Board. Nobody has seen or heard of more.
pub record FitsBoard (seat posted : ℕ) (failed : Bool) (id : ℕ) (v : BoardView) : Type 0 where
  pub posts : v.posts ≡ true → (id ≡ seat) × (v.number ≡ posted) × (v.broken ≡ failed)
  pub number : v.number ≤ posted
  pub broken : v.broken ≡ true → failed ≡ true
  pub heard_number : v.heard_number ≤ posted
  pub heard_broken : v.heard_broken ≡ true → failed ≡ true

pub record IsBoard (s : State (Unit {0}) BoardView) : Type 0 where
  pub seat : ℕ
  pub posted : ℕ
  pub failed : Bool
  pub words : s.words ≡ posted ∷ flag_of failed ∷ []
  pub each : (id : ℕ) (v : BoardView) → get_elem? s.views id ≡ some v
      → FitsBoard seat posted failed id v

-- ---- what each step says

abbrev pub Mine : Type 0
Mine = Me (Unit {0}) BoardView

abbrev pub HasPostedNumber : Mine → ℕ → Mine → Type 0
HasPostedNumber me n after = (after.0 ≡ record me.0 { number = n }) × (after.1 ≡ me.1)

abbrev pub HasPostedBroken : Mine → ℕ → Mine → Type 0
HasPostedBroken me n after = (after.0 ≡ record me.0 { broken = true }) × (after.1 ≡ me.1)

abbrev pub HasEntered : Mine → ℕ → Mine → Type 0
HasEntered me n after = (after.0 ≡ reader n) × (after.1 ≡ [])

abbrev pub HasSeenNumber : Mine → ℕ → Mine → Type 0
HasSeenNumber me n after =
    (me.0.number ≤ n)
    × (after.0 ≡ record me.0 { number = n; loads = me.0.loads ++ Number n ∷ [] })
    × (after.1 ≡ me.1)

abbrev pub HasSeenBroken : Mine → ℕ → Mine → Type 0
HasSeenBroken me n after =
    (me.0.broken ≡ true → is_set n ≡ true)
    × (after.0 ≡ record me.0 { broken = is_set n; loads = me.0.loads ++ Broken (is_set n) ∷ [] })
    × (after.1 ≡ me.1)

abbrev pub HasCompared : Mine → ℕ → Mine → Type 0
HasCompared me n after =
    (after.0 ≡ me.0) × (after.1 ≡ me.1) × (me.0.heard_number ≤ me.0.number)
    × (me.0.heard_broken ≡ true → me.0.broken ≡ true)

-- ---- what is stored

-- the image holds a cache whose last command has this number or a later one
pub record ShowsFrom (sizes : Sizes) (least : ℕ) (image : List ℕ) : Type 0 where
  pub rows : List (Row (List ℕ))
  pub number : ℕ
  pub from : least ≤ number
  pub shows : ShowsCache sizes rows number image
