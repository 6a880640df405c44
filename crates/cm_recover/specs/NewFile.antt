-- A region file that was just made: the empty cache.
use Rattle.std.specs.Prelude.{◌≡◌, ℕ, ◌-◌, ◌*◌, List, ◌++◌, Err, slice_set}
use Rattle.std.specs.FinMap as map
use Rattle.cm_pool.specs.Geometry.{Sizes}
use Rattle.cm_layout.specs.declared.heads.HalfHead.{HalfHead}
use Rattle.cm_layout.specs.Offsets.{superblock_size, slot_size, half_size}
use Rattle.cm_layout.specs.Slots.{half_head_slot}
use Rattle.cm_layout.specs.Superblock.{superblock_bytes}
use Rattle.cm_layout.specs.Frames.{entry_version}
use Rattle.cm_layout.specs.Zeros.{blank}
use Rattle.cm_guards.specs.Gates.{OneOf}
use Rattle.cm_state.specs.Stands.{Stands}
use Rattle.cm_verdict.specs.declared.fault.FileFault.TheVariants.{NotACache}
use Rattle.cm_verdict.specs.Verdict.{verdict}

-- the position of the superblock's gate: its last byte
abbrev pub gate_at : ℕ
gate_at = superblock_size - 1

-- the head of half 0, which counts: no live rows, no command so far
abbrev pub first_head : HalfHead
first_head = record { version = entry_version; live = 0; epoch = 1; base = 0 }

-- after the first head both halves are zeros, and there are no roots
abbrev pub zeros_behind : Sizes → ℕ
zeros_behind sizes = 2 * half_size sizes - slot_size

unfoldable pub new_bytes : Sizes → List ℕ
new_bytes sizes =
    superblock_bytes sizes ++ (half_head_slot first_head ++ blank (zeros_behind sizes))

-- the same, except for the superblock's gate, which is shut
abbrev pub shut_bytes : Sizes → List ℕ
shut_bytes sizes = slice_set (new_bytes sizes) gate_at 0

-- contents that are no cache
abbrev pub IsNoCache : List ℕ → Type 0
IsNoCache contents = verdict contents ≡ Err NotACache

-- contents that stand for the cache with no loaders, at number 0
abbrev pub IsEmptyCache : Sizes → List ℕ → Type 0
IsEmptyCache sizes contents = Stands sizes contents map.empty map.empty 0

-- what a crash may leave while the gate is written
abbrev pub IsNoneOrEmpty : Sizes → List ℕ → Type 0
IsNoneOrEmpty sizes contents = OneOf IsNoCache (IsEmptyCache sizes) contents
