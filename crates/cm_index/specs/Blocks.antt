-- An index in blocks: the entries of all blocks, one block after another, and where a place is
-- among them.
use Rattle.std.specs.Prelude.{◌≡◌, ◌+◌, ◌*◌, ◌≤◌, ◌<◌, ℕ, List, [], length, take, drop, get_or}
use Rattle.std.specs.Prelude.{◌⊎◌, slice_set as set}
use Rattle.std.specs.List.{flat_map, insert, AllByRecursion}
use Rattle.cm_index.specs.declared.index.IndexEntry.{IndexEntry}
use Rattle.cm_index.specs.declared.search.BlockPlace.{BlockPlace}

-- how many entries a block has room for, and how many a full one keeps when it is halved
abbrev pub block_size : ℕ
block_size = 1024

abbrev pub half_size : ℕ
half_size = 512

-- what contracts see of an index: its entries in order, and how many it has room for
pub record Entries : Type 0 where
  pub items : List IndexEntry
  pub room : ℕ

-- the blocks, one after another
abbrev pub joined : {X : Type 0} → List (List X) → List X
joined blocks = flat_map (λ b. b) blocks

-- the place of a spot among all entries
abbrev pub place_of : {X : Type 0} → List (List X) → BlockPlace → ℕ
place_of blocks s = length (joined (take s.block blocks)) + s.place

-- there is an entry at the spot
pub record IsTaken {X : Type 0} (blocks : List (List X)) (s : BlockPlace) : Type 0 where
  pub block : s.block < length blocks
  pub place : s.place < length (get_or blocks s.block [])

-- an entry can be inserted at the spot, before those from there on
pub record BlockIsBetween {X : Type 0} (blocks : List (List X)) (s : BlockPlace) : Type 0 where
  pub block : s.block < length blocks
  pub place : s.place ≤ length (get_or blocks s.block [])

-- a block takes all entries of the one before it, or it is at least half full
abbrev pub IsFilled : {X : Type 0} → List X → List X → Type 0
IsFilled before block = (length before ≡ 0) ⊎ (half_size ≤ length block)

-- all blocks after this one are at least half full, so there are never more than there is room for;
-- spare blocks are empty, and either list has room for all
pub record AreBlocks {X : Type 0} (first : ℕ) (blocks spare : List (List X))
    (capacity spare_capacity : ℕ) : Type 0 where
  pub within : first < length blocks
  pub half : AllByRecursion (λ b. half_size ≤ length b) (drop (first + 1) blocks)
  pub empty : AllByRecursion (λ b. length b ≡ 0) spare
  pub room : length blocks + length spare ≤ capacity
  pub spare_room : length blocks + length spare ≤ spare_capacity

-- how many entries these blocks have room for, if each is half full
abbrev pub room_of : {X : Type 0} → List (List X) → List (List X) → ℕ
room_of blocks spare = half_size * (length blocks + length spare)

-- an entry is put in the place of the one at the spot
abbrev pub with_entry : {X : Type 0} → List (List X) → BlockPlace → X → List (List X)
with_entry blocks s x = set blocks s.block (set (get_or blocks s.block []) s.place x)

-- a block is halved, and its upper half inserted after it
abbrev pub halved : {X : Type 0} → List (List X) → ℕ → List (List X)
halved blocks i =
    insert (set blocks i (take half_size (get_or blocks i []))) (i + 1)
    (drop half_size (get_or blocks i []))
