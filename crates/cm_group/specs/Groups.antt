-- Groups: what the accepted cache hands to its disk at once. The entries have consecutive numbers;
-- each comes with the records that it writes.
use Rattle.std.specs.Prelude.{◌≡◌, ℕ, ◌+◌, ◌^◌, ◌<◌, ◌≤◌, ◌-◌, min, max, List, [], ◌∷◌, ◌++◌}
use Rattle.std.specs.Prelude.{length}
use Rattle.std.specs.Prelude.{map, Option, Some, None}
use Rattle.std.specs.List.{AllByRecursion}
use Rattle.cm_class.specs.declared.class_file.ClassFile.{ClassFile}
use Rattle.cm_rules.specs.Keeps.{KeepsRules}
use Rattle.cm_record.specs.Layout.{lay}
use Rattle.cm_layout.specs.Rows.{EachClass, slots_of_entries, kept_on}
pub use Rattle.cm_layout.specs.Rows.{group_limit}
use Rattle.cm_layout.specs.declared.class_row.ClassRow.{ClassRow}
use Rattle.cm_layout.specs.declared.row.Row.{Row}
use Rattle.cm_layout.specs.declared.row.Row.TheVariants.{Loader, Class}
use Rattle.cm_layout.specs.declared.entry.Entry.{Entry}
use Rattle.cm_layout.specs.declared.entry.Entry.TheVariants as entry
use Rattle.cm_layout.specs.Frames.{BareEntry, bare_entry}

-- an entry; a class with the words of its record, and a move with those of the records on its old
-- chunk, in order
pub record Carried : Type 0 where
  pub entry : Entry (List ℕ)
  pub moved : List (List ℕ)

-- the number of the first entry, the learnt number of the cache that hands it out, and the entries
pub record Handed : Type 0 where
  pub first : ℕ
  pub learnt : ℕ
  pub entries : List Carried

-- the entries as the journal has them
abbrev pub entries_in : List Carried → List BareEntry
entries_in carried = map (λ c. bare_entry c.entry) carried

-- the class that an entry makes, with what is kept of it
abbrev pub class_made : {P : Type 0} → Entry P → Option (ClassRow × P)
class_made (entry.Live (Loader r)) = None
class_made (entry.Live (Class r p)) = Some (r, p)
class_made (entry.Unload e) = None
class_made (entry.Move e) = None
class_made (entry.UnloadAll e) = None

-- the records that an entry writes: for a class its own, for a move those that move, for any other
-- entry none
abbrev pub records_of : Entry (List ℕ) → List (List ℕ) → List (List ℕ)
records_of (entry.Live (Loader r)) moved = []
records_of (entry.Live (Class r words)) moved = words ∷ []
records_of (entry.Unload e) moved = []
records_of (entry.Move e) moved = moved
records_of (entry.UnloadAll e) moved = []

-- the records that move with an entry, given the rows before it: those on the old chunk
abbrev pub moved_with : List (Row (List ℕ)) → Entry (List ℕ) → List (List ℕ)
moved_with rows (entry.Live row) = []
moved_with rows (entry.Unload e) = []
moved_with rows (entry.Move e) = kept_on e.from rows
moved_with rows (entry.UnloadAll e) = []

-- the offsets, of 32 bits each, of records that follow one another
abbrev pub offsets_from : ℕ → List (List ℕ) → List ℕ
offsets_from at [] = []
offsets_from at (words ∷ records) =
    at ∷ offsets_from (min (at + length words) (2 ^ 32 - 1)) records

-- the slots that the entries take
abbrev pub slots_taken : List Carried → ℕ
slots_taken carried = slots_of_entries (entries_in carried)

-- the number after the last one
abbrev pub next_number : Handed → ℕ
next_number group = group.first + length group.entries

-- the record of a class that keeps the rules
abbrev pub IsRightRecord : List ℕ → Type 0
IsRightRecord words = (c : ClassFile) × KeepsRules c × (words ≡ lay c)

-- each class's words are the record of a class that keeps the rules
abbrev pub AreRight : List (Row (List ℕ)) → Type 0
AreRight rows = EachClass IsRightRecord rows

abbrev pub CarriesRight : Carried → Type 0
CarriesRight c = AllByRecursion IsRightRecord (records_of c.entry c.moved)

-- the invariant of groups
pub record IsGroup (group : Handed) : Type 0 where
  pub some : 1 ≤ length group.entries
  pub few : slots_taken group.entries ≤ group_limit
  pub learnt : group.learnt < group.first
  pub numbers : next_number group ≤ 2 ^ 63 + 1
  pub right : AllByRecursion CarriesRight group.entries

-- the second group continues where the first ends, nothing is learnt between them, and one group
-- can hold both
pub record IsContinuedBy (one two : Handed) : Type 0 where
  pub numbers : next_number one ≡ two.first
  pub learnt : two.learnt < one.first
  pub few : slots_taken one.entries + slots_taken two.entries ≤ group_limit

abbrev pub joined_group : Handed → Handed → Handed
joined_group one two = record {
  first = one.first;
  learnt = max one.learnt two.learnt;
  entries = one.entries ++ two.entries;
}

-- the invariant of a group's fields: how many slots it has taken, and room for as many entries as
-- the other slots allow
pub record KeepsGroup (capacity slots : ℕ) (group : Handed) : Type 0 where
  pub is : IsGroup group
  pub slots_are : slots ≡ slots_taken group.entries
  pub room : length group.entries + (group_limit - slots) ≤ capacity
