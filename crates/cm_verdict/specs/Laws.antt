-- How the verdict relates to what contents frame and stand for: it is Ok exactly if they stand for
-- a cache.
use Rattle.std.specs.Prelude.{◌≡◌, ◌≤◌, ℕ, ◌+◌, ◌*◌, ◌^◌, List, [], ◌∷◌, length, map, Ok}
use Rattle.cm_record.specs.Layout.{lay}
use Rattle.cm_pool.specs.Geometry.{Sizes, IsGeometry}
use Rattle.cm_layout.specs.declared.row.Row.{Row}
use Rattle.cm_layout.specs.declared.row.Row.TheVariants.{Loader, Class}
use Rattle.cm_layout.specs.Offsets.{slot_size, roots_at, root_at}
use Rattle.cm_layout.specs.Rows.{rows_with, bare}
use Rattle.cm_layout.specs.Frames.{LiveRowsKeep, Frames}
use Rattle.cm_layout.specs.Framing.{Framing, IsRightFraming, Matches, used_size}
use Rattle.cm_state.specs.State.{CacheState, NamesDiffer, class_shows}
use Rattle.cm_state.specs.Stands.{Arenas, EachKeepsRules, Stands}
use Rattle.cm_verdict.specs.declared.defined_at.DefinedAt.{DefinedAt}
use Rattle.cm_verdict.specs.Found.{Found, found_in}
use Rattle.cm_verdict.specs.Verdict.{Standing, words_at, state_in, arenas_in, verdict}

-- ---- what is found

-- rows with the words of their records
abbrev pub row_words : Sizes → List ℕ → Row DefinedAt → Row (List ℕ)
row_words sizes contents (Loader r) = Loader r
row_words sizes contents (Class r at) = Class r (words_at sizes contents r.place)

abbrev pub rows_words : Sizes → List ℕ → List (Row DefinedAt) → List (Row (List ℕ))
rows_words sizes contents rows = map (row_words sizes contents) rows

-- each record lies in a root that a file of this length holds as a whole
abbrev pub AreWhole : Sizes → ℕ → List (Row DefinedAt) → Type 0
AreWhole sizes long [] = Unit {0}
AreWhole sizes long (Loader r ∷ rows) = AreWhole sizes long rows
AreWhole sizes long (Class r at ∷ rows) =
    (root_at sizes (r.place.chunk.root + 1) ≤ long) × AreWhole sizes long rows

abbrev pub words_found : List ℕ → Found → List (Row (List ℕ))
words_found contents f = rows_words f.sizes contents f.rows

-- what was found is what the contents frame: a framing matches that has this half, this head and
-- this end
pub record IsFramed (contents : List ℕ) (f : Found) : Type 0 where
  pub framing : Framing
  pub counting_is : framing.counting ≡ f.half
  pub head_is : framing.head ≡ f.head
  pub end_is : used_size framing ≡ slot_size * f.end
  pub right : IsRightFraming f.sizes framing (words_found contents f) f.number
  pub matches : Matches f.sizes framing (words_found contents f) contents
  pub frames : Frames f.sizes contents (words_found contents f) f.number

-- what was found are live rows that keep the rules at the number of the last command, wherever
-- their records lie, in a file that is as long as its halves require
pub record IsLive (contents : List ℕ) (f : Found) : Type 0 where
  pub lawful : IsGeometry f.sizes
  pub long : roots_at f.sizes ≤ length contents
  pub live : LiveRowsKeep f.sizes f.number [] (bare f.rows)
  pub number : f.number ≤ 2 ^ 63

abbrev pub FoundIsLive : Type 0
FoundIsLive = (contents : List ℕ) (f : Found) → found_in contents ≡ Ok f → IsLive contents f

-- What is found in contents is what they frame, if the records lie in whole roots.
abbrev pub FoundIsFramed : Type 0
FoundIsFramed =
    (contents : List ℕ) (f : Found) → found_in contents ≡ Ok f
    → AreWhole f.sizes (length contents) f.rows → IsFramed contents f

-- this is found in the contents, with these sizes, rows and number
pub record IsFound (sizes : Sizes) (contents : List ℕ) (rows : List (Row (List ℕ)))
    (number : ℕ) (f : Found) : Type 0 where
  pub found : found_in contents ≡ Ok f
  pub whole : AreWhole f.sizes (length contents) f.rows
  pub sizes_are : f.sizes ≡ sizes
  pub rows_are : words_found contents f ≡ rows
  pub number_is : f.number ≡ number

-- What contents frame is found in them.
abbrev pub FramedIsFound : Type 0
FramedIsFound =
    (sizes : Sizes) (contents : List ℕ) (rows : List (Row (List ℕ))) (number : ℕ)
    → Frames sizes contents rows number
    → (f : Found) × IsFound sizes contents rows number f

-- ---- what contents stand for

-- the file stands for the state, arenas and number of this verdict; its classes have the records
-- that were found, keep the class rules, and have different names in each loader
pub record Proves (contents : List ℕ) (s : Standing) : Type 0 where
  pub stands : Stands s.found.sizes contents (state_in s) (arenas_in s) s.found.number
  pub found : found_in contents ≡ Ok s.found
  pub whole : AreWhole s.found.sizes (length contents) s.found.rows
  pub words : rows_with lay s.rows ≡ words_found contents s.found
  pub kept : EachKeepsRules s.rows
  pub differ : NamesDiffer class_shows [] s.rows

-- If the verdict is Ok, the contents stand for what it says.
abbrev pub VerdictStands : Type 0
VerdictStands = (contents : List ℕ) (s : Standing) → verdict contents ≡ Ok s → Proves contents s

-- the verdict is Ok, with these sizes, this state, these arenas and this number
pub record IsVerdict (sizes : Sizes) (contents : List ℕ) (m : CacheState) (arenas : Arenas)
    (number : ℕ) (s : Standing) : Type 0 where
  pub ok : verdict contents ≡ Ok s
  pub sizes_are : s.found.sizes ≡ sizes
  pub state_is : state_in s ≡ m
  pub arenas_are : arenas_in s ≡ arenas
  pub number_is : s.found.number ≡ number

-- If contents stand for a cache, the verdict says so.
abbrev pub StandsInVerdict : Type 0
StandsInVerdict =
    (sizes : Sizes) (contents : List ℕ) (m : CacheState) (arenas : Arenas) (number : ℕ)
    → Stands sizes contents m arenas number
    → (s : Standing) × IsVerdict sizes contents m arenas number s
