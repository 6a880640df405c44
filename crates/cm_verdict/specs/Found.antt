-- What is found in a file without looking at records: its sizes, the half that counts, and what is
-- live by the entries of that half; or the first damage. The superblock comes first, then the
-- file's length, the heads of both halves, their epochs, and the walk.
use Rattle.std.specs.Prelude.{◌≡◌, ◌≤◌, ◌-◌, ◌^◌, ◌+◌, ◌==◌, ◌&&◌, nat_le, nat_lt, if◌then◌else◌}
use Rattle.std.specs.Prelude.{ℕ, Bool}
use Rattle.std.specs.Prelude.{List, length, take, get_or, Option, Some, None, Result, Ok, Err}
use Rattle.std.specs.Str.{bytes_eq}
use Rattle.cm_pool.specs.Geometry.{Sizes, IsGeometry}
use Rattle.cm_layout.specs.declared.half.Half.{Half}
use Rattle.cm_layout.specs.declared.half.Half.TheVariants.{Zero, One}
use Rattle.cm_layout.specs.declared.heads.HalfHead.{HalfHead}
use Rattle.cm_layout.specs.declared.row.Row.{Row}
use Rattle.cm_layout.specs.Offsets.{superblock_size, slot_size, half_size, half_at, roots_at}
use Rattle.cm_layout.specs.Slots.{open_gate}
use Rattle.cm_layout.specs.Superblock.{magic, superblock_bytes}
use Rattle.cm_layout.specs.Rules.{row_limit}
use Rattle.cm_layout.specs.Frames.{entry_version, oldest_version}
use Rattle.cm_layout.specs.Framing.{part}
use Rattle.cm_verdict.specs.declared.counting.Counting.{Counting}
use Rattle.cm_verdict.specs.declared.defined_at.DefinedAt.{DefinedAt}
use Rattle.cm_verdict.specs.declared.fault.Damage.{Damage}
use Rattle.cm_verdict.specs.declared.fault.Damage.TheVariants as damage
use Rattle.cm_verdict.specs.declared.fault.FileFault.{FileFault}
use Rattle.cm_verdict.specs.declared.fault.FileFault.TheVariants.{NotACache, Damaged}
use Rattle.cm_verdict.specs.Faults.{◌>>=◌, at_slot}
use Rattle.cm_verdict.specs.Decoding.{is_open, half_head_in, sizes_in}
use Rattle.cm_verdict.specs.Walk.{Walked, walk, start, first_slot}

-- ---- the superblock, and the length

-- the file is long enough for a superblock, which begins with the magic and is open
abbrev pub is_cache : ℕ → List ℕ → Bool
is_cache long block =
    nat_le superblock_size long && bytes_eq (take 8 block) magic
    && (get_or block (superblock_size - 1) 0 == open_gate)

-- the sizes that a superblock spells in a file of this length
abbrev pub sizes_spelled : ℕ → Option Sizes → Result Sizes FileFault
sizes_spelled long None = Err (Damaged damage.Superblock 0)
sizes_spelled long (Some sizes) =
    if nat_le (roots_at sizes) long then Ok sizes else Err (Damaged damage.Length 0)

unfoldable pub sizes_found : ℕ → List ℕ → Result Sizes FileFault
sizes_found long block =
    if is_cache long block then sizes_spelled long (sizes_in block) else Err NotACache

-- a file of this length begins with the superblock of these sizes, and has both halves
pub record FileBegins (long : ℕ) (block : List ℕ) (sizes : Sizes) : Type 0 where
  pub block_is : block ≡ superblock_bytes sizes
  pub lawful : IsGeometry sizes
  pub halves : roots_at sizes ≤ long

-- ---- the half that counts

abbrev pub is_version : ℕ → Bool
is_version v = nat_le oldest_version v && nat_le v entry_version

abbrev pub is_good_head : Sizes → HalfHead → Bool
is_good_head sizes h =
    is_version h.version && nat_le h.live (row_limit sizes) && nat_le h.base (2 ^ 63)
    && nat_le 1 h.epoch && nat_le h.epoch (h.base + h.version)

abbrev pub good_head : Sizes → Option HalfHead → Result (Option HalfHead) Damage
good_head sizes None = Err damage.Head
good_head sizes (Some h) = if is_good_head sizes h then Ok (Some h) else Err damage.Head

-- the head of a half, if it is open, by its slot 0
unfoldable pub open_head : Sizes → List ℕ → Result (Option HalfHead) Damage
open_head sizes slot = if is_open slot then good_head sizes (half_head_in slot) else Ok None

-- the half that counts, with its head
abbrev pub counting : Half → HalfHead → Counting
counting half head = record { half = half; head = head }

abbrev pub which_half : Option HalfHead → Option HalfHead → Result Counting Damage
which_half None None = Err damage.Halves
which_half (Some a) None = Ok (counting Zero a)
which_half None (Some b) = Ok (counting One b)
which_half (Some a) (Some b) =
    if a.epoch == b.epoch then Err damage.Halves
    else if nat_lt b.epoch a.epoch then Ok (counting Zero a) else Ok (counting One b)

abbrev pub counting_half : Sizes → List ℕ → List ℕ → Result Counting FileFault
counting_half sizes head_0 head_1 = do
  zero ← at_slot (first_slot sizes Zero) (open_head sizes head_0)
  one ← at_slot (first_slot sizes One) (open_head sizes head_1)
  at_slot 0 (which_half zero one)

-- ---- the file

-- What is found in a file.
pub record Found : Type 0 where
  pub sizes : Sizes
  -- the half that counts, and its head
  pub half : Half
  pub head : HalfHead
  -- the live rows, each class with the slot of its entry, and the number of the last command
  pub rows : List (Row DefinedAt)
  pub number : ℕ
  -- the first slot after the groups: a gate that isn't open, or the half's end
  pub end : ℕ

abbrev pub half_in : Sizes → List ℕ → Half → List ℕ
half_in sizes contents half = part (half_at sizes half) (half_size sizes) contents

abbrev pub head_in : Sizes → List ℕ → Half → List ℕ
head_in sizes contents half = part (half_at sizes half) slot_size contents

abbrev pub found_walked : Sizes → Counting → Walked → Found
found_walked sizes c w = record {
  sizes = sizes;
  half = c.half;
  head = c.head;
  rows = w.rows;
  number = w.number;
  end = w.slot;
}

-- the walk through the half that counts, from its first slot after the head to its end
abbrev pub walk_through : Sizes → Counting → List ℕ → Result Walked FileFault
walk_through sizes c half =
    walk sizes (first_slot sizes c.half) half (sizes.slots - 1) (start c.head)

unfoldable pub found_in : List ℕ → Result Found FileFault
found_in contents = do
  sizes ← sizes_found (length contents) (take superblock_size contents)
  c ← counting_half sizes (head_in sizes contents Zero) (head_in sizes contents One)
  w ← walk_through sizes c (half_in sizes contents c.half)
  Ok (found_walked sizes c w)
