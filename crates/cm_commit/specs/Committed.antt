-- What is certain to be in a region file.
use Rattle.std.specs.Prelude.{ℕ, ◌+◌, List, [], ◌∷◌, ◌++◌, is_some}
use Rattle.cm_pool.specs.Geometry.{Sizes}
use Rattle.cm_layout.specs.declared.row.Row.{Row}
use Rattle.cm_layout.specs.Rows.{slots_of_rows, slots_of_entries}
use Rattle.cm_layout.specs.Frames.{BareEntry}
use Rattle.cm_layout.specs.Framing.{Framing}
use Rattle.cm_commit.specs.declared.journal_end.JournalEnd.{JournalEnd}

-- The rows, each class with the words of its record; the number of the last command; and what the
-- halves of the journal hold.
pub record Committed : Type 0 where
  pub sizes : Sizes
  pub rows : List (Row (List ℕ))
  pub number : ℕ
  pub framing : Framing

-- the slots that groups take, each with its head
abbrev pub slots_of_groups : List (List BareEntry) → ℕ
slots_of_groups [] = 0
slots_of_groups (group ∷ groups) = 1 + slots_of_entries group + slots_of_groups groups

-- the slot where the half that counts ends, and where the head of its next group will be
abbrev pub end_slot : Framing → ℕ
end_slot f = 1 + slots_of_rows f.live + slots_of_groups f.groups

-- the half that counts, with one more group
abbrev pub with_group : Framing → List BareEntry → Framing
with_group f group = record f { groups = f.groups ++ group ∷ [] }

-- where the journal continues
abbrev pub journal_of : Committed → JournalEnd
journal_of c = record {
  geometry = c.sizes;
  half = c.framing.counting;
  end = end_slot c.framing;
  epoch = c.framing.head.epoch;
  other_open = is_some c.framing.older;
  number = c.number;
}
