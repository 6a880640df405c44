-- What bytes spell, as functions: fields are read at their places, and the bytes are an encoding
-- exactly if writing these fields again gives them.
use Rattle.std.specs.Prelude.{ℕ, zero, suc, ◌≤◌, length, ◌+◌, ◌*◌, ◌==◌, ◌&&◌, nat_le, nat_lt, Bool}
use Rattle.std.specs.Prelude.{if◌then◌else◌, List, [], ◌++◌}
use Rattle.std.specs.Prelude.{◌∷◌, take, drop}
use Rattle.std.specs.Prelude.{Option, Some, None, get_or}
use Rattle.std.specs.Int.{w16, w32, w64, from_le_bytes}
use Rattle.std.specs.Option.{option_map}
use Rattle.std.specs.Str.{bytes_eq}
use Rattle.cm_pool.specs.Geometry.{Sizes}
use Rattle.cm_pool.specs.declared.chunk.Chunk.{Chunk}
use Rattle.cm_layout.specs.declared.heads.HalfHead.{HalfHead}
use Rattle.cm_layout.specs.declared.heads.GroupHead.{GroupHead}
use Rattle.cm_layout.specs.declared.loader_row.LoaderRow.{LoaderRow}
use Rattle.cm_layout.specs.declared.class_row.ClassRow.{ClassRow}
use Rattle.cm_layout.specs.declared.unload.Unload.{Unload}
use Rattle.cm_layout.specs.declared.move_entry.Move.{Move}
use Rattle.cm_layout.specs.declared.unload_all.UnloadAll.{UnloadAll}
use Rattle.cm_layout.specs.declared.row.Row.TheVariants.{Loader, Class}
use Rattle.cm_layout.specs.declared.entry.Entry.TheVariants as entry
use Rattle.cm_layout.specs.Names.{name_room, limit_of}
use Rattle.cm_layout.specs.Offsets.{slot_size}
use Rattle.cm_layout.specs.Slots.{open_gate, half_head_slot, group_head_slot, loader_slots}
use Rattle.cm_layout.specs.Slots.{class_slot, unload_slot, move_slot}
use Rattle.cm_layout.specs.Slots.{unload_all_slot, unload_limit}
use Rattle.cm_layout.specs.Superblock.{superblock_bytes}
use Rattle.cm_layout.specs.Frames.{BareRow, BareEntry}

-- ---- numbers at their places

abbrev pub two_at : ℕ → List ℕ → ℕ
two_at at bytes = from_le_bytes w16 (take 2 (drop at bytes))

abbrev pub four_at : ℕ → List ℕ → ℕ
four_at at bytes = from_le_bytes w32 (take 4 (drop at bytes))

abbrev pub eight_at : ℕ → List ℕ → ℕ
eight_at at bytes = from_le_bytes w64 (take 8 (drop at bytes))

-- a value, if the bytes are its encoding
abbrev pub if_spelled : {A : Type 0} → List ℕ → List ℕ → A → Option A
if_spelled encoding bytes value = if bytes_eq encoding bytes then Some value else None

-- ---- gates and heads

-- the first byte opens a gate
abbrev pub is_open : List ℕ → Bool
is_open bytes = get_or bytes 0 0 == open_gate

abbrev pub half_head_at : List ℕ → HalfHead
half_head_at slot = record {
  version = two_at 2 slot;
  live = four_at 4 slot;
  epoch = eight_at 8 slot;
  base = eight_at 16 slot;
}

unfoldable pub half_head_in : List ℕ → Option HalfHead
half_head_in slot = if_spelled (half_head_slot (half_head_at slot)) slot (half_head_at slot)

abbrev pub group_head_at : List ℕ → GroupHead
group_head_at slot = record { count = two_at 2 slot; first = eight_at 8 slot }

unfoldable pub group_head_in : List ℕ → Option GroupHead
group_head_in slot = if_spelled (group_head_slot (group_head_at slot)) slot (group_head_at slot)

-- ---- rows and entries

-- slots follow one another here: those of a row or an entry, and more after them
abbrev pub front : List ℕ → List ℕ
front slots = take slot_size slots

abbrev pub name_size : List ℕ → ℕ
name_size slots = get_or slots 2 0

-- the slots of a loader: two where its name has more bytes than the first has room for
abbrev pub loader_slots_at : List ℕ → List ℕ
loader_slots_at slots =
    take (slot_size * (if nat_lt name_room (name_size slots) then 2 else 1)) slots

-- a loader's name is in its first slot as far as there is room, and continues in the second
abbrev pub name_at : List ℕ → List ℕ
name_at slots = take (name_size slots) (take name_room (drop 16 slots) ++ drop 80 slots)

abbrev pub loader_at : List ℕ → LoaderRow
loader_at slots = record { number = eight_at 8 slots; name = name_at slots }

abbrev pub loader_of : List ℕ → Option LoaderRow
loader_of slots = if_spelled (loader_slots (loader_at slots)) slots (loader_at slots)

unfoldable pub loader_in : ℕ → List ℕ → Option LoaderRow
loader_in version slots =
    if nat_le (name_size slots) (limit_of version) then loader_of (loader_slots_at slots) else None

abbrev pub chunk_at : ℕ → List ℕ → Chunk
chunk_at at slot = record {
  root = four_at at slot;
  order = four_at (at + 4) slot;
  at = four_at (at + 8) slot;
}

abbrev pub class_row_at : List ℕ → ClassRow
class_row_at slot = record {
  loader = eight_at 8 slot;
  place = record { chunk = chunk_at 16 slot; offset = four_at 28 slot; words = four_at 4 slot };
}

unfoldable pub class_row_in : List ℕ → Option ClassRow
class_row_in slot = if_spelled (class_slot (class_row_at slot)) slot (class_row_at slot)

abbrev pub unload_at : List ℕ → Unload
unload_at slot = record { loader = eight_at 8 slot }

unfoldable pub unload_in : List ℕ → Option Unload
unload_in slot = if_spelled (unload_slot (unload_at slot)) slot (unload_at slot)

abbrev pub move_at : List ℕ → Move
move_at slot = record {
  loader = eight_at 8 slot;
  from = chunk_at 16 slot;
  to = chunk_at 28 slot;
}

unfoldable pub move_in : List ℕ → Option Move
move_in slot = if_spelled (move_slot (move_at slot)) slot (move_at slot)

abbrev pub loaders_size : List ℕ → ℕ
loaders_size slot = get_or slot 2 0

-- this many numbers, one after another
abbrev pub eights_in : ℕ → List ℕ → List ℕ
eights_in zero bytes = []
eights_in (suc n) bytes = eight_at 0 bytes ∷ eights_in n (drop 8 bytes)

abbrev pub unload_all_at : List ℕ → UnloadAll
unload_all_at slot = record { loaders = eights_in (loaders_size slot) (drop 8 slot) }

unfoldable pub unload_all_in : List ℕ → Option UnloadAll
unload_all_in slot =
    if nat_le 1 (loaders_size slot) && nat_le (loaders_size slot) unload_limit
    then if_spelled (unload_all_slot (unload_all_at slot)) slot (unload_all_at slot) else None

-- the byte that says what a slot is
abbrev pub kind_at : List ℕ → ℕ
kind_at slot = get_or slot 1 0

-- the row, and the entry, that slots begin with, of this version
unfoldable pub row_in : ℕ → List ℕ → Option BareRow
row_in version slots =
    if kind_at slots == 17 then option_map (λ r. Loader r) (loader_in version slots)
    else option_map (λ r. Class r tt) (class_row_in (front slots))

unfoldable pub entry_in : ℕ → List ℕ → Option BareEntry
entry_in version slots =
    if kind_at slots == 19 then option_map (λ e. entry.Unload e) (unload_in (front slots))
    else if kind_at slots == 20 then option_map (λ e. entry.Move e) (move_in (front slots))
    else if kind_at slots == 21
    then option_map (λ e. entry.UnloadAll e) (unload_all_in (front slots))
    else option_map (λ r. entry.Live r) (row_in version slots)

-- a row or an entry takes at least one slot, and no more than there are
pub record AreTaken (slots : List ℕ) (taken : ℕ) : Type 0 where
  pub some : 1 ≤ taken
  pub few : slot_size * taken ≤ length slots

-- how many of these slots take a number: all but continuation slots of names, which version 1
-- doesn't have
unfoldable pub numbers_in : ℕ → List ℕ → ℕ
numbers_in zero slots = 0
numbers_in (suc count) slots =
    (if kind_at slots == 22 then 0 else 1) + numbers_in count (drop slot_size slots)

abbrev pub numbers_taken : ℕ → ℕ → List ℕ → ℕ
numbers_taken version count slots = if version == 1 then count else numbers_in count slots

-- ---- the superblock

abbrev pub sizes_at : List ℕ → Sizes
sizes_at block = record {
  top = four_at 12 block;
  roots = four_at 16 block;
  slots = four_at 20 block;
}

-- within the limits
abbrev pub is_lawful : Sizes → Bool
is_lawful g =
    nat_le 3 g.top && nat_le g.top 12 && nat_le 1 g.roots && nat_le g.roots 256
    && nat_le 256 g.slots && nat_le g.slots 65536

unfoldable pub sizes_in : List ℕ → Option Sizes
sizes_in block =
    if is_lawful (sizes_at block)
    then if_spelled (superblock_bytes (sizes_at block)) block (sizes_at block) else None
