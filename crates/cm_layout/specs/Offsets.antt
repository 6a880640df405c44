-- Where the parts of a region file are, in bytes from its beginning: the superblock, two halves of
-- slots, and the roots.
use Rattle.std.specs.Prelude.{ℕ, ◌+◌, ◌*◌}
use Rattle.cm_pool.specs.Geometry.{Sizes}
use Rattle.cm_pool.specs.Chunks.{chunk_size}
use Rattle.cm_pool.specs.declared.place.Place.{Place}
use Rattle.cm_layout.specs.declared.half.Half.{Half}
use Rattle.cm_layout.specs.declared.half.Half.TheVariants.{Zero, One}

-- how many bytes the superblock has, and each slot
abbrev pub superblock_size : ℕ
superblock_size = 4096

abbrev pub slot_size : ℕ
slot_size = 64

abbrev pub half_size : Sizes → ℕ
half_size sizes = slot_size * sizes.slots

abbrev pub half_at : Sizes → Half → ℕ
half_at sizes Zero = superblock_size
half_at sizes One = superblock_size + half_size sizes

-- a slot of a half; its head is slot 0
abbrev pub slot_at : Sizes → Half → ℕ → ℕ
slot_at sizes half slot = half_at sizes half + slot_size * slot

abbrev pub roots_at : Sizes → ℕ
roots_at sizes = superblock_size + 2 * half_size sizes

-- how many bytes a root has: its words have 8
abbrev pub root_size : Sizes → ℕ
root_size sizes = 8 * chunk_size sizes.top

abbrev pub root_at : Sizes → ℕ → ℕ
root_at sizes root = roots_at sizes + root * root_size sizes

-- where a record begins, counted from the beginning of the roots and from the beginning of the file
abbrev pub record_in_roots : Sizes → Place → ℕ
record_in_roots sizes place =
    place.chunk.root * root_size sizes + 8 * (place.chunk.at + place.offset)

abbrev pub record_at : Sizes → Place → ℕ
record_at sizes place = roots_at sizes + record_in_roots sizes place
