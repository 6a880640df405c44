-- How a cache is made from the rows that a file frames.
use Rattle.std.specs.Prelude.{◌≡◌, ℕ, ◌+◌, ◌↔◌, max, true, false, List, [], ◌∷◌, ◌++◌}
use Rattle.cm_pool.specs.Geometry.{Sizes}
use Rattle.cm_pool.specs.FreeSpace.{IsFreeSpace}
use Rattle.cm_layout.specs.declared.class_row.ClassRow.{ClassRow}
use Rattle.cm_layout.specs.declared.row.Row.{Row}
use Rattle.cm_layout.specs.declared.row.Row.TheVariants.{Loader, Class}
use Rattle.cm_layout.specs.Rows.{classes_in, bare}
use Rattle.cm_layout.specs.Rules.{is_live}
use Rattle.cm_rows.specs.Rows.{LiveRows}
use Rattle.cm_space.specs.Space.{SpaceState, IsKnown, arena_of, with_arena}
use Rattle.cm_space.specs.Adopting.{IsAdoptable, adopted}
use Rattle.cm_space.specs.Ownership.{IsSpace}
use Rattle.cm_front.specs.Laws.{SpaceMatches}
use Rattle.cm_front.specs.Front.{FrontState}

-- one more than the greatest root that a row uses, or none
abbrev pub roots_of : List ClassRow → ℕ
roots_of [] = 0
roots_of (r ∷ rows) = max (r.place.chunk.root + 1) (roots_of rows)

-- the space of rows: an arena for each live loader, nothing waits, and no more roots are present
-- than rows use
pub record IsSpaceOf (sizes : Sizes) (rows : List (Row (List ℕ)))
    (space : SpaceState) : Type 0 where
  pub matches : SpaceMatches sizes (bare rows) space
  pub known : (u : ℕ) → IsKnown space u ↔ (is_live u rows ≡ true)
  pub waiting : space.waiting ≡ []
  pub roots : space.pool.roots ≡ roots_of (classes_in rows)

-- ---- one more row

abbrev pub CanTake : Row (List ℕ) → SpaceState → Type 0
CanTake (Loader r) space = ¬ IsKnown space r.number
CanTake (Class r words) space =
    IsKnown space r.loader × IsAdoptable (arena_of space r.loader) space.pool r.place

abbrev pub taken_by : Row (List ℕ) → SpaceState → SpaceState
taken_by (Loader r) space = with_arena space r.number []
taken_by (Class r words) space = adopted space r.loader r.place

pub record RestoresRow (row : Row (List ℕ)) (old new : SpaceState) : Type 0 where
  pub after : new ≡ taken_by row old
  pub is : IsSpace new
  pub pool : IsFreeSpace new.pool

-- some rows are taken, and these are left
pub record IsOnTheWay (sizes : Sizes) (rows rest : List (Row (List ℕ)))
    (space : SpaceState) : Type 0 where
  pub taken : List (Row (List ℕ))
  pub split : taken ++ rest ≡ rows
  pub so_far : IsSpaceOf sizes taken space

-- ---- the cache

-- everything is durable, and nothing is to be handed out
pub record Restores (book : LiveRows (List ℕ)) (number : ℕ) (front : FrontState) : Type 0 where
  pub space : IsSpaceOf book.sizes book.rows front.space
  pub front_is : front ≡ record {
    sizes = book.sizes;
    rows = book.rows;
    number = number;
    sealed = number;
    learnt = number;
    unsealed = [];
    space = front.space;
    broken = false;
    closed = false;
  }
