-- How arenas match rows.
use Rattle.std.specs.Prelude.{◌≡◌, ℕ, ◌≤◌, List, [], ◌∷◌, ◌++◌, true}
use Rattle.cm_pool.specs.Geometry.{Sizes}
use Rattle.cm_pool.specs.FreeSpace.{FreeSpace, IsFreeSpace}
use Rattle.cm_pool.specs.Lists.{Among}
use Rattle.cm_pool.specs.declared.place.Place.{Place}
use Rattle.cm_arena.specs.Chains.{Filled, chain_chunks, last_of}
use Rattle.cm_arena.specs.Placing.{Places}
use Rattle.cm_space.specs.Space.{SpaceState, arena_of}
use Rattle.cm_space.specs.Ownership.{IsSpace}
use Rattle.cm_layout.specs.declared.class_row.ClassRow.{ClassRow}
use Rattle.cm_layout.specs.declared.row.Row.TheVariants.{Class}
use Rattle.cm_layout.specs.Rows.{classes_in}
use Rattle.cm_layout.specs.Rules.{class_fits}
use Rattle.cm_layout.specs.Frames.{BareRow, AreApart, LiveRowsKeep}
use Rattle.cm_front.specs.Chains.{chain_of, top_of}

-- The last chunk of a loader's chain is that of its last class, with the used words.
abbrev pub ChainsEndAtTop : Type 0
ChainsEndAtTop =
    (sizes : Sizes) (n : ℕ) (rows : List BareRow) → LiveRowsKeep sizes n [] rows
    → AreApart (classes_in rows) → (u : ℕ) → last_of (chain_of u rows) ≡ top_of u rows

-- Each class's chunk is one of its loader's chain.
abbrev pub ChainsHaveChunks : Type 0
ChainsHaveChunks =
    (rows : List BareRow) (r : ClassRow) → Among r (classes_in rows)
    → Among r.place.chunk (chain_chunks (chain_of r.loader rows))

-- A space whose arenas are those of the rows.
pub record SpaceMatches (sizes : Sizes) (rows : List BareRow) (space : SpaceState) : Type 0 where
  pub is : IsSpace space
  pub pool : IsFreeSpace space.pool
  pub geometry : space.pool.geometry ≡ sizes
  pub chains : (u : ℕ) → arena_of space u ≡ chain_of u rows

-- If such a space finds a place, a class's row with this place keeps the rules on chunks, and the
-- loader's chain is then that of the rows with it.
pub record IsPlaceOf (sizes : Sizes) (rows : List BareRow) (u words : ℕ) (place : Place)
    (chain : List Filled) : Type 0 where
  pub amount : place.words ≡ words
  pub fits : class_fits sizes rows (record { loader = u; place = place }) ≡ true
  pub chain_is : chain ≡ chain_of u
      (rows ++ Class (record { loader = u; place = place }) (tt {0}) ∷ [])

abbrev pub PlacesKeepRules : Type 0
PlacesKeepRules =
    (sizes : Sizes) (n : ℕ) (rows : List BareRow) (space : SpaceState) (u words : ℕ) (place : Place)
    (chain : List Filled) (left : FreeSpace) → LiveRowsKeep sizes n [] rows
    → AreApart (classes_in rows) → SpaceMatches sizes rows space → 1 ≤ words
    → Places (arena_of space u) space.pool words place chain left
    → IsPlaceOf sizes rows u words place chain
