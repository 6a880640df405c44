-- Properties of the definitions themselves.
use Rattle.std.specs.Prelude.{◌≡◌, ℕ, ◌+◌, ◌≤◌, List, [], ◌∷◌, ◌++◌, length, None}
use Rattle.std.specs.List.{AllByRecursion}
use Rattle.cm_pool.specs.declared.chunk.Chunk.{Chunk}
use Rattle.cm_pool.specs.declared.place.Place.{Place}
use Rattle.cm_pool.specs.Geometry.{Sizes}
use Rattle.cm_layout.specs.declared.row.Row.{Row}
use Rattle.cm_layout.specs.Slots.{FitsRow, FitsEntry}
use Rattle.cm_layout.specs.Rows.{classes_in, rows_after, bare, moved, kept_on, move_writes}
use Rattle.cm_layout.specs.Rules.{broken_rule, broken_live_rule}
use Rattle.cm_layout.specs.Loaders.{HasOwnLoaders}
use Rattle.cm_layout.specs.Frames.{BareRow, BareEntry, OpenHalf, IsGoodHalf, AreApart, LiveRowsKeep}
use Rattle.cm_layout.specs.Frames.{rows_of, number_at_end, HoldsRecord, HoldsRow, Frames}
use Rattle.cm_layout.specs.Frames.{entry_version}
use Rattle.cm_layout.specs.Framing.{Framing, IsRightFraming, Matches, Agree, guards, needs}

-- After rows and entries that keep the rules, chunks that differ share no word, and no chunk has
-- two loaders.
abbrev pub RowsAreApart : Type 0
RowsAreApart =
    (sizes : Sizes) (h : OpenHalf) → IsGoodHalf sizes h → AreApart (classes_in (rows_of h))

-- After rows and entries that keep the rules, the rows are again live rows that keep theirs, at the
-- number of the last entry: a new half can begin with them.
abbrev pub RowsStayLive : Type 0
RowsStayLive =
    (sizes : Sizes) (h : OpenHalf) → IsGoodHalf sizes h
    → LiveRowsKeep sizes (number_at_end h) [] (rows_of h)

-- Adding one entry that keeps the rules, or one live row, leaves rows that keep theirs.
abbrev pub EntriesStayLive : Type 0
EntriesStayLive =
    (sizes : Sizes) (rows : List BareRow) (n : ℕ) (e : BareEntry) → AreApart (classes_in rows)
    → LiveRowsKeep sizes n [] rows → FitsEntry e → broken_rule sizes rows (n + 1) e ≡ None
    → AreApart (classes_in (rows_after rows e)) × LiveRowsKeep sizes (n + 1) [] (rows_after rows e)

abbrev pub RowsGrow : Type 0
RowsGrow =
    (sizes : Sizes) (n : ℕ) (rows : List BareRow) (row : BareRow) → LiveRowsKeep sizes n [] rows
    → FitsRow row → broken_live_rule sizes n rows row ≡ None
    → LiveRowsKeep sizes n [] (rows ++ row ∷ [])

-- Loaders of live rows that keep the rules differ, their numbers are those of past commands, and
-- each class belongs to one of them.
abbrev pub LoadersAreOwn : Type 0
LoadersAreOwn =
    (sizes : Sizes) (n : ℕ) (rows : List BareRow) → LiveRowsKeep sizes n [] rows
    → HasOwnLoaders n rows

-- a record is in this place, in a whole root
abbrev pub StandsAt : Sizes → List ℕ → Place → List ℕ → Type 0
StandsAt sizes roots place words =
    HoldsRecord sizes roots (record { loader = 0; place = place }) words

-- If the records of rows are in their places, and those on one chunk are on another too, one after
-- another from its beginning, then the records of the rows after that move are in their places:
-- each keeps its offset.
abbrev pub MovesStand : Type 0
MovesStand =
    (sizes : Sizes) (n : ℕ) (rows : List (Row (List ℕ))) (from to : Chunk) (roots : List ℕ)
    → LiveRowsKeep sizes n [] (bare rows) → AllByRecursion (HoldsRow sizes roots) rows
    → AllByRecursion (λ w. StandsAt sizes roots w.0 w.1) (move_writes to 0 (kept_on from rows))
    → AllByRecursion (HoldsRow sizes roots) (moved from to rows)

-- Contents frame at most one thing: the sizes, the rows with their words, and the number.
abbrev pub FramesAreOne : Type 0
FramesAreOne =
    (s t : Sizes) (contents : List ℕ) (rows more : List (Row (List ℕ))) (n m : ℕ)
    → Frames s contents rows n → Frames t contents more m
    → (s ≡ t) × ((rows ≡ more) × (n ≡ m))

-- Contents frame rows and a number exactly if they match a framing that is right for them.
pub record IsFramed (sizes : Sizes) (contents : List ℕ) (rows : List (Row (List ℕ)))
    (number : ℕ) : Type 0 where
  pub framing : Framing
  pub right : IsRightFraming sizes framing rows number
  pub matches : Matches sizes framing rows contents

-- the half that counts in these contents is of the version that is written now
pub record IsNewest (contents : List ℕ) : Type 0 where
  pub sizes : Sizes
  pub rows : List (Row (List ℕ))
  pub number : ℕ
  pub framed : IsFramed sizes contents rows number
  pub version : framed.framing.head.version ≡ entry_version

-- Whatever framings contents match, one half counts in them, with one head, the same live rows and
-- the same groups.
pub record AreOneHalf (f g : Framing) : Type 0 where
  pub counting : f.counting ≡ g.counting
  pub head : f.head ≡ g.head
  pub live : f.live ≡ g.live
  pub groups : f.groups ≡ g.groups

abbrev pub FramingsAreOne : Type 0
FramingsAreOne =
    (s t : Sizes) (contents : List ℕ) (rows more : List (Row (List ℕ))) (n m : ℕ)
    (a : IsFramed s contents rows n) (b : IsFramed t contents more m)
    → AreOneHalf a.framing b.framing

abbrev pub FramesAreMatched : Type 0
FramesAreMatched =
    (sizes : Sizes) (contents : List ℕ) (rows : List (Row (List ℕ))) (n : ℕ)
    → Frames sizes contents rows n → IsFramed sizes contents rows n

abbrev pub MatchesFrame : Type 0
MatchesFrame =
    (sizes : Sizes) (contents : List ℕ) (rows : List (Row (List ℕ))) (n : ℕ)
    → IsFramed sizes contents rows n → Frames sizes contents rows n

-- Contents that are long enough, and agree on what is guarded with others that match, match too.
abbrev pub AgreementMatches : Type 0
AgreementMatches =
    (sizes : Sizes) (f : Framing) (rows : List (Row (List ℕ))) (a b : List ℕ)
    → needs sizes rows ≤ length b → Agree (guards sizes f rows) a b → Matches sizes f rows a
    → Matches sizes f rows b
