-- How contracts describe the accepted cache, and what holds of it between two calls.
use Rattle.std.specs.Prelude.{◌≡◌, ℕ, ◌+◌, ◌^◌, ◌<◌, ◌≤◌, ◌↔◌, Bool, true, List, [], ◌∷◌, Option}
use Rattle.std.specs.Prelude.{Some, None, Ok, Err, if◌then◌else◌, refl}
use Rattle.std.specs.List.{AllByRecursion}
use Rattle.std.specs.Coded.{Coded, code_by, coded×, codes}
use Rattle.cm_pool.specs.Geometry.{Sizes, IsGeometry}
use Rattle.cm_layout.specs.declared.row.Row.{Row}
use Rattle.cm_layout.specs.Rows.{bare}
use Rattle.cm_layout.specs.Rules.{is_live}
use Rattle.cm_group.specs.Groups.{Handed, AreRight}
use Rattle.cm_space.specs.Space.{SpaceState, WaitingChunks, IsKnown, state_code}
use Rattle.cm_rows.specs.Rows.{LiveRows}
use Rattle.cm_state.specs.State.{words_show, state_of}
use Rattle.cm_state.specs.Step.{Change, step}
use Rattle.cm_state.specs.Entries.{AreCacheRows}
use Rattle.cm_commands.specs.declared.refusal.Refusal.{Refusal}
use Rattle.cm_commands.specs.declared.refusal.Refusal.TheVariants as refusal
use Rattle.cm_commands.specs.Refusals.{refusal_of}
use Rattle.cm_front.specs.Laws.{SpaceMatches}
use Rattle.cm_front.specs.Unsealed.{WaitingGroups, Follow}

pub record FrontState : Type 0 where
  pub sizes : Sizes
  -- each class with the words of its record
  pub rows : List (Row (List ℕ))
  -- the numbers of the last accepted command, of the last one handed out, and of the last one known
  -- to be durable
  pub number : ℕ
  pub sealed : ℕ
  pub learnt : ℕ
  -- what is still to be handed out, oldest first
  pub unsealed : List Handed
  pub space : SpaceState
  pub broken : Bool
  pub closed : Bool

-- how the code keeps it
abbrev pub front_of : LiveRows (List ℕ) → SpaceState → WaitingGroups → ℕ → ℕ → ℕ → Bool → Bool
    → FrontState
front_of book space unsealed number sealed learnt broken closed =
    record {
      sizes = book.sizes;
      rows = book.rows;
      number = number;
      sealed = sealed;
      learnt = learnt;
      unsealed = unsealed.groups;
      space = space;
      broken = broken;
      closed = closed;
    }

-- a value of this kind as data: what has a code of its own, and the space
pub record FrontParts : Type 0 where
  pub sizes : Sizes
  pub rows : List (Row (List ℕ))
  pub number : ℕ
  pub sealed : ℕ
  pub learnt : ℕ
  pub unsealed : List Handed
  pub broken : Bool
  pub closed : Bool

pub parts_code : Coded FrontParts
parts_code = Prim.hlevel codes

abbrev pub front_code : Coded FrontState
front_code =
    code_by (FrontParts × SpaceState) (coded× parts_code state_code)
    (λ s. (
      record {
        sizes = s.sizes;
        rows = s.rows;
        number = s.number;
        sealed = s.sealed;
        learnt = s.learnt;
        unsealed = s.unsealed;
        broken = s.broken;
        closed = s.closed;
      },
      s.space,
    ))
    (λ t. record {
      sizes = t.0.sizes;
      rows = t.0.rows;
      number = t.0.number;
      sealed = t.0.sealed;
      learnt = t.0.learnt;
      unsealed = t.0.unsealed;
      space = t.1;
      broken = t.0.broken;
      closed = t.0.closed;
    })
    (λ _. refl)

-- waiting chunks wait for a number that is given, but not learnt yet
pub record IsDueLater (learnt number : ℕ) (w : WaitingChunks) : Type 0 where
  pub from : learnt < w.number
  pub to : w.number ≤ number

-- The rows are a cache's; the arenas are those of the rows, one for each live loader; and the
-- commands that aren't handed out have the numbers after those that are.
pub record IsFront (s : FrontState) : Type 0 where
  pub lawful : IsGeometry s.sizes
  pub rows : AreCacheRows words_show s.sizes s.number s.rows
  pub right : AreRight s.rows
  pub space : SpaceMatches s.sizes (bare s.rows) s.space
  pub known : (u : ℕ) → IsKnown s.space u ↔ (is_live u s.rows ≡ true)
  pub waiting : AllByRecursion (IsDueLater s.learnt s.number) s.space.waiting
  pub learnt : s.learnt ≤ s.sealed
  pub numbers : s.number ≤ 2 ^ 63
  pub groups : Follow (s.sealed + 1) s.unsealed (s.number + 1)

-- ---- refusals

-- the first refusal that applies, in the order of the checks, except for lack of room in the region
-- and failed allocations
abbrev pub first_refusal : FrontState → Change (List ℕ) → Option Refusal
first_refusal s change =
    if s.closed then Some refusal.Closed
    else if s.broken then Some refusal.Broken
    else elim (step words_show s.sizes (state_of words_show s.rows) s.number change) [
      | Err cause ↦ Some (refusal_of cause)
      | Ok next ↦ None
    ]
