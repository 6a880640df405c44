-- The superblock of a region file, its first 4,096 bytes: `CMCACHE1`, then the version and the
-- sizes as u32, little-endian, zeros, and the gate in the last byte.
use Rattle.std.specs.Prelude.{ℕ, ◌-◌, List, [], ◌∷◌, ◌++◌}
use Rattle.std.specs.Int.{w32, to_le_bytes}
use Rattle.cm_pool.specs.Geometry.{Sizes}
use Rattle.cm_layout.specs.Offsets.{superblock_size}
use Rattle.cm_layout.specs.Slots.{open_gate}
use Rattle.cm_layout.specs.Zeros.{blank}

-- the ASCII text CMCACHE1
abbrev pub magic : List ℕ
magic = 67 ∷ 77 ∷ 67 ∷ 65 ∷ 67 ∷ 72 ∷ 69 ∷ 49 ∷ []

-- the bytes in front of the zeros
abbrev pub superblock_front : Sizes → List ℕ
superblock_front g =
    magic ++ to_le_bytes w32 1 ++ to_le_bytes w32 g.top ++ to_le_bytes w32 g.roots
    ++ to_le_bytes w32 g.slots

abbrev pub front_size : ℕ
front_size = 24

-- how many zeros there are between the front and the gate, which is the last byte
abbrev pub superblock_zeros : ℕ
superblock_zeros = superblock_size - front_size - 1

-- the whole superblock, its gate open
abbrev pub superblock_bytes : Sizes → List ℕ
superblock_bytes g = superblock_front g ++ (blank superblock_zeros ++ open_gate ∷ [])
