-- The slots of a region file: 64 bytes each, numbers little-endian. Byte 0 of a head is its gate,
-- open exactly if it is A5; byte 0 of any other slot is 00. Byte 1 says what the slot is. All bytes
-- that aren't named are 00.
use Rattle.std.specs.Prelude.{ℕ, ◌<◌, ◌≤◌, ◌-◌, ◌^◌, if◌then◌else◌, List, [], ◌∷◌, ◌++◌, length}
use Rattle.std.specs.Prelude.{take, drop}
use Rattle.std.specs.Int.{w16, w32, w64, to_le_bytes}
use Rattle.std.specs.List.{flat_map, AllByRecursion}
use Rattle.cm_pool.specs.declared.chunk.Chunk.{Chunk}
use Rattle.cm_layout.specs.declared.heads.HalfHead.{HalfHead}
use Rattle.cm_layout.specs.declared.heads.GroupHead.{GroupHead}
use Rattle.cm_layout.specs.declared.loader_row.LoaderRow.{LoaderRow}
use Rattle.cm_layout.specs.declared.class_row.ClassRow.{ClassRow}
use Rattle.cm_layout.specs.declared.unload.Unload.{Unload}
use Rattle.cm_layout.specs.declared.move_entry.Move.{Move}
use Rattle.cm_layout.specs.declared.unload_all.UnloadAll.{UnloadAll}
use Rattle.cm_layout.specs.declared.row.Row.{Row}
use Rattle.cm_layout.specs.declared.row.Row.TheVariants.{Loader, Class}
use Rattle.cm_layout.specs.declared.entry.Entry.{Entry}
use Rattle.cm_layout.specs.declared.entry.Entry.TheVariants as entry
use Rattle.cm_layout.specs.Names.{name_room, long_name_room, name_limit, limit_of, is_long}
pub use Rattle.cm_layout.specs.Names.{unload_limit}
use Rattle.cm_layout.specs.Zeros.{zeros}

-- the gate byte of a head that is open
abbrev pub open_gate : ℕ
open_gate = 165

-- ---- heads

-- a half's head after its gate: kind, entry version, slots of its live rows, epoch, base
abbrev pub half_head_rest : HalfHead → List ℕ
half_head_rest h =
    (1 ∷ to_le_bytes w16 h.version) ++ to_le_bytes w32 h.live ++ to_le_bytes w64 h.epoch
    ++ to_le_bytes w64 h.base ++ zeros 40

-- a group's head after its gate: kind, slots of its entries, the first entry's number
abbrev pub group_head_rest : GroupHead → List ℕ
group_head_rest h = (2 ∷ to_le_bytes w16 h.count) ++ zeros 4 ++ to_le_bytes w64 h.first ++ zeros 48

-- open heads
abbrev pub half_head_slot : HalfHead → List ℕ
half_head_slot h = open_gate ∷ half_head_rest h

abbrev pub group_head_slot : GroupHead → List ℕ
group_head_slot h = open_gate ∷ group_head_rest h

-- ---- rows and entries

-- a name, filled up with zeros to the room of two slots
abbrev pub padded : List ℕ → List ℕ
padded name = name ++ zeros (long_name_room - length name)

-- a loader: its name's length, its number, its name as far as there is room
abbrev pub loader_slot : LoaderRow → List ℕ
loader_slot r =
    (0 ∷ 17 ∷ length r.name ∷ zeros 5) ++ to_le_bytes w64 r.number
    ++ take name_room (padded r.name)

-- a continuation slot: the end of a longer name
abbrev pub rest_slot : List ℕ → List ℕ
rest_slot name = (0 ∷ 22 ∷ zeros 14) ++ drop name_room (padded name)

-- a loader, with its continuation slot if the name is a long one
abbrev pub loader_slots : LoaderRow → List ℕ
loader_slots r = loader_slot r ++ (if is_long r.name then rest_slot r.name else [])

-- a chunk: root, order and place
abbrev pub chunk_bytes : Chunk → List ℕ
chunk_bytes c = to_le_bytes w32 c.root ++ to_le_bytes w32 c.order ++ to_le_bytes w32 c.at

-- a class: its record's words, its loader's number, its chunk, the offset of its record in the
-- chunk
abbrev pub class_slot : ClassRow → List ℕ
class_slot r =
    (0 ∷ 18 ∷ zeros 2) ++ to_le_bytes w32 r.place.words ++ to_le_bytes w64 r.loader
    ++ to_le_bytes w32 r.place.chunk.root ++ to_le_bytes w32 r.place.chunk.order
    ++ to_le_bytes w32 r.place.chunk.at
    ++ to_le_bytes w32 r.place.offset ++ zeros 32

-- a loader that is unloaded, by its number
abbrev pub unload_slot : Unload → List ℕ
unload_slot e = (0 ∷ 19 ∷ zeros 6) ++ to_le_bytes w64 e.loader ++ zeros 48

-- a loader whose last chunk's records move: its number, the old chunk, the new one
abbrev pub move_slot : Move → List ℕ
move_slot e =
    (0 ∷ 20 ∷ zeros 6) ++ to_le_bytes w64 e.loader
    ++ to_le_bytes w32 e.from.root ++ to_le_bytes w32 e.from.order ++ to_le_bytes w32 e.from.at
    ++ to_le_bytes w32 e.to.root ++ to_le_bytes w32 e.to.order ++ to_le_bytes w32 e.to.at
    ++ zeros 24

-- loaders that are unloaded at once: how many, and their numbers, filled up with zeros
abbrev pub unload_all_slot : UnloadAll → List ℕ
unload_all_slot e =
    (0 ∷ 21 ∷ length e.loaders ∷ zeros 5)
    ++ flat_map (to_le_bytes w64) (e.loaders ++ zeros (unload_limit - length e.loaders))

abbrev pub row_slots : {P : Type 0} → Row P → List ℕ
row_slots (Loader r) = loader_slots r
row_slots (Class r p) = class_slot r

abbrev pub entry_slots : {P : Type 0} → Entry P → List ℕ
entry_slots (entry.Live r) = row_slots r
entry_slots (entry.Unload e) = unload_slot e
entry_slots (entry.Move e) = move_slot e
entry_slots (entry.UnloadAll e) = unload_all_slot e

-- ---- what has an encoding: each number fits its field, and a name its slot

pub record FitsHalfHead (h : HalfHead) : Type 0 where
  pub version : h.version < 2 ^ 16
  pub live : h.live < 2 ^ 32
  pub epoch : h.epoch < 2 ^ 64
  pub base : h.base < 2 ^ 64

pub record FitsGroupHead (h : GroupHead) : Type 0 where
  pub count : h.count < 2 ^ 16
  pub first : h.first < 2 ^ 64

pub record FitsChunk (c : Chunk) : Type 0 where
  pub root : c.root < 2 ^ 32
  pub order : c.order < 2 ^ 32
  pub at : c.at < 2 ^ 32

pub record FitsLoader (r : LoaderRow) : Type 0 where
  pub number : r.number < 2 ^ 64
  pub name : length r.name ≤ name_limit

pub record FitsClass (r : ClassRow) : Type 0 where
  pub words : r.place.words < 2 ^ 32
  pub loader : r.loader < 2 ^ 64
  pub chunk : FitsChunk r.place.chunk
  pub offset : r.place.offset < 2 ^ 32

pub record FitsUnload (e : Unload) : Type 0 where
  pub loader : e.loader < 2 ^ 64

pub record FitsMove (e : Move) : Type 0 where
  pub loader : e.loader < 2 ^ 64
  pub from : FitsChunk e.from
  pub to : FitsChunk e.to

pub record FitsUnloadAll (e : UnloadAll) : Type 0 where
  pub some : 1 ≤ length e.loaders
  pub few : length e.loaders ≤ unload_limit
  pub loaders : AllByRecursion (λ u. u < 2 ^ 64) e.loaders

abbrev pub FitsRow : {P : Type 0} → Row P → Type 0
FitsRow (Loader r) = FitsLoader r
FitsRow (Class r p) = FitsClass r

abbrev pub FitsEntry : {P : Type 0} → Entry P → Type 0
FitsEntry (entry.Live r) = FitsRow r
FitsEntry (entry.Unload e) = FitsUnload e
FitsEntry (entry.Move e) = FitsMove e
FitsEntry (entry.UnloadAll e) = FitsUnloadAll e

-- ---- what entries of a version may be: version 1 has no names that need two slots

abbrev pub RowOfVersion : {P : Type 0} → ℕ → Row P → Type 0
RowOfVersion version (Loader r) = length r.name ≤ limit_of version
RowOfVersion version (Class r p) = Unit {0}

abbrev pub EntryOfVersion : {P : Type 0} → ℕ → Entry P → Type 0
EntryOfVersion version (entry.Live r) = RowOfVersion version r
EntryOfVersion version (entry.Unload e) = Unit {0}
EntryOfVersion version (entry.Move e) = Unit {0}
EntryOfVersion version (entry.UnloadAll e) = Unit {0}
