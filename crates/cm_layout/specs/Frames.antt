-- The region file as a whole: which contents frame which rows and which number. They are the
-- superblock, two halves of the journal and the roots; the half that counts, the open one of
-- greater epoch, says which rows live; each row of a class says where in the roots its record is.
use Rattle.std.specs.Prelude.{◌≡◌, ◌≢◌, ℕ, ◌+◌, ◌*◌, ◌^◌, ◌<◌, ◌≤◌, ◌⊎◌, List, [], ◌∷◌, ◌++◌}
use Rattle.std.specs.Prelude.{length, take, drop, None}
use Rattle.std.specs.List.{flat_map, AllByRecursion}
use Rattle.cm_record_layout.specs.Packing.{packed_into}
use Rattle.cm_pool.specs.Geometry.{Sizes, IsGeometry}
use Rattle.cm_pool.specs.Chunks.{Meets}
use Rattle.cm_pool.specs.Lists.{Among}
use Rattle.cm_layout.specs.declared.heads.HalfHead.{HalfHead}
use Rattle.cm_layout.specs.declared.class_row.ClassRow.{ClassRow}
use Rattle.cm_layout.specs.declared.row.Row.{Row}
use Rattle.cm_layout.specs.declared.row.Row.TheVariants.{Loader, Class}
use Rattle.cm_layout.specs.declared.entry.Entry.{Entry}
use Rattle.cm_layout.specs.Offsets.{half_size, root_size, record_in_roots}
use Rattle.cm_layout.specs.Slots.{open_gate, half_head_slot, group_head_slot, row_slots}
use Rattle.cm_layout.specs.Slots.{entry_slots}
use Rattle.cm_layout.specs.Slots.{FitsHalfHead, FitsRow, FitsEntry, RowOfVersion, EntryOfVersion}
use Rattle.cm_layout.specs.Superblock.{superblock_bytes}
use Rattle.cm_layout.specs.Rows.{slots_of_rows, slots_of_entries, group_limit, classes_in}
use Rattle.cm_layout.specs.Rows.{rows_after}
use Rattle.cm_layout.specs.Rows.{rows_after_all, bare, row_with, entry_with}
use Rattle.cm_layout.specs.Rules.{row_limit, broken_rule, broken_live_rule}

-- rows and entries with nothing kept of a class, as in the journal
abbrev pub BareRow : Type 0
BareRow = Row (Unit {0})

abbrev pub BareEntry : Type 0
BareEntry = Entry (Unit {0})

abbrev pub bare_row : {P : Type 0} → Row P → BareRow
bare_row row = row_with (λ p. tt {0}) row

abbrev pub bare_entry : {P : Type 0} → Entry P → BareEntry
bare_entry e = entry_with (λ p. tt {0}) e

-- ---- rows, entries and groups, one after another

-- live rows, each after those before it
abbrev pub LiveRowsKeep : Sizes → ℕ → List BareRow → List BareRow → Type 0
LiveRowsKeep sizes base rows [] = Unit {0}
LiveRowsKeep sizes base rows (row ∷ live) =
    FitsRow row × (broken_live_rule sizes base rows row ≡ None)
    × LiveRowsKeep sizes base (rows ++ row ∷ []) live

-- the entries of a group; the number of the first is the one after n
abbrev pub EntriesKeep : Sizes → List BareRow → ℕ → List BareEntry → Type 0
EntriesKeep sizes rows n [] = Unit {0}
EntriesKeep sizes rows n (e ∷ entries) =
    FitsEntry e × (broken_rule sizes rows (n + 1) e ≡ None)
    × EntriesKeep sizes (rows_after rows e) (n + 1) entries

-- a group of 1 to 64 slots
pub record GroupKeeps (sizes : Sizes) (rows : List BareRow) (n : ℕ)
    (group : List BareEntry) : Type 0 where
  pub some : 1 ≤ slots_of_entries group
  pub few : slots_of_entries group ≤ group_limit
  pub numbers : n + length group ≤ 2 ^ 63
  pub entries : EntriesKeep sizes rows n group

abbrev pub GroupsKeep : Sizes → List BareRow → ℕ → List (List BareEntry) → Type 0
GroupsKeep sizes rows n [] = Unit {0}
GroupsKeep sizes rows n (group ∷ groups) =
    GroupKeeps sizes rows n group
    × GroupsKeep sizes (rows_after_all rows group) (n + length group) groups

-- ---- a half of the journal

-- a head and its entries
abbrev pub group_slots : ℕ → List BareEntry → List ℕ
group_slots n group =
    group_head_slot (record { count = slots_of_entries group; first = n + 1 })
    ++ flat_map entry_slots group

abbrev pub groups_slots : ℕ → List (List BareEntry) → List ℕ
groups_slots n [] = []
groups_slots n (group ∷ groups) = group_slots n group ++ groups_slots (n + length group) groups

-- the end of the half, or a byte that doesn't open a gate
abbrev pub IsEnd : List ℕ → Type 0
IsEnd [] = Unit {0}
IsEnd (b ∷ bytes) = b ≢ open_gate

-- the version of entries that is written, and the oldest that is read
abbrev pub entry_version : ℕ
entry_version = 2

abbrev pub oldest_version : ℕ
oldest_version = 1

-- Each half that is written anew has the next epoch. Each but the first of a file is written after
-- a command, or to upgrade a file of version 1.
pub record IsGoodHead (sizes : Sizes) (head : HalfHead) : Type 0 where
  pub fits : FitsHalfHead head
  pub version_from : oldest_version ≤ head.version
  pub version_to : head.version ≤ entry_version
  pub live : head.live ≤ row_limit sizes
  pub base : head.base ≤ 2 ^ 63
  pub epoch_from : 1 ≤ head.epoch
  pub epoch_to : head.epoch ≤ head.base + head.version

-- What an open half holds: its head, the live rows, the groups, and the bytes after their end.
pub record OpenHalf : Type 0 where
  pub head : HalfHead
  pub live : List BareRow
  pub groups : List (List BareEntry)
  pub behind : List ℕ

abbrev pub half_bytes : OpenHalf → List ℕ
half_bytes h =
    half_head_slot h.head
    ++ (flat_map row_slots h.live ++ (groups_slots h.head.base h.groups ++ h.behind))

pub record IsGoodHalf (sizes : Sizes) (h : OpenHalf) : Type 0 where
  pub head : IsGoodHead sizes h.head
  pub count : slots_of_rows h.live ≡ h.head.live
  pub live : LiveRowsKeep sizes h.head.base [] h.live
  pub live_version : AllByRecursion (RowOfVersion h.head.version) h.live
  pub groups : GroupsKeep sizes h.live h.head.base h.groups
  pub groups_version : AllByRecursion (AllByRecursion (EntryOfVersion h.head.version)) h.groups
  pub end : IsEnd h.behind

-- a half's entries, the rows that live after them, and the number of the last command
abbrev pub entries_of : OpenHalf → List BareEntry
entries_of h = flat_map (λ group. group) h.groups

abbrev pub rows_of : OpenHalf → List BareRow
rows_of h = rows_after_all h.live (entries_of h)

abbrev pub number_at_end : OpenHalf → ℕ
number_at_end h = h.head.base + length (entries_of h)

-- The other half is shut, or has a good head of lower epoch.
abbrev pub IsOlder : Sizes → ℕ → List ℕ → Type 0
IsOlder sizes epoch bytes =
    IsEnd bytes ⊎ ((head : HalfHead) × (rest : List ℕ) × (bytes ≡ half_head_slot head ++ rest)
    × IsGoodHead sizes head × (head.epoch < epoch))

-- one half counts, with these rows and this number, and the other doesn't
pub record Counts (sizes : Sizes) (counting other : List ℕ) (rows : List BareRow)
    (number : ℕ) : Type 0 where
  pub half : OpenHalf
  pub bytes : counting ≡ half_bytes half
  pub good : IsGoodHalf sizes half
  pub older : IsOlder sizes half.head.epoch other
  pub rows_are : rows ≡ rows_of half
  pub number_is : number ≡ number_at_end half

-- ---- records in the roots

-- the record of a row is in its place, in a whole root
pub record HoldsRecord (sizes : Sizes) (roots : List ℕ) (r : ClassRow)
    (words : List ℕ) : Type 0 where
  pub count : length words ≡ r.place.words
  pub whole : (r.place.chunk.root + 1) * root_size sizes ≤ length roots
  pub held : packed_into r.place.words
      (take (8 * r.place.words) (drop (record_in_roots sizes r.place) roots)) ≡ words

abbrev pub HoldsRow : Sizes → List ℕ → Row (List ℕ) → Type 0
HoldsRow sizes roots (Loader r) = Unit {0}
HoldsRow sizes roots (Class r words) = HoldsRecord sizes roots r words

-- chunks that differ share no word, and none has two loaders
abbrev pub AreApart : List ClassRow → Type 0
AreApart classes =
    (r s : ClassRow) → Among r classes → Among s classes → Meets r.place.chunk s.place.chunk
    → (r.place.chunk ≡ s.place.chunk) × (r.loader ≡ s.loader)

-- ---- the contents

-- What a region file is made of.
pub record Region : Type 0 where
  pub half_0 : List ℕ
  pub half_1 : List ℕ
  pub roots : List ℕ

abbrev pub region_bytes : Sizes → Region → List ℕ
region_bytes sizes r = superblock_bytes sizes ++ (r.half_0 ++ (r.half_1 ++ r.roots))

-- The contents frame the rows, each class with the words of its record, and the number of the last
-- command.
pub record Frames (sizes : Sizes) (contents : List ℕ) (rows : List (Row (List ℕ)))
    (number : ℕ) : Type 0 where
  pub lawful : IsGeometry sizes
  pub region : Region
  pub bytes : contents ≡ region_bytes sizes region
  pub half_0 : length region.half_0 ≡ half_size sizes
  pub half_1 : length region.half_1 ≡ half_size sizes
  pub counts : Counts sizes region.half_0 region.half_1 (bare rows) number
      ⊎ Counts sizes region.half_1 region.half_0 (bare rows) number
  pub records : AllByRecursion (HoldsRow sizes region.roots) rows
  pub apart : AreApart (classes_in rows)
