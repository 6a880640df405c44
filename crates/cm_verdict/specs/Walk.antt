-- The walk through the half that counts: live rows first, then groups, until a gate isn't open or
-- the half ends. For a row or an entry, what its slots spell is checked first, then the rules on
-- rows, then those on chunks.
use Rattle.std.specs.Prelude.{ℕ, zero, suc, ◌+◌, ◌-◌, ◌*◌, ◌^◌, ◌==◌, ◌&&◌, nat_le, nat_lt, Bool}
use Rattle.std.specs.Prelude.{true, false, if◌then◌else◌, List, [], ◌∷◌, ◌++◌, take, drop}
use Rattle.std.specs.Prelude.{Option, Some, None, Result}
use Rattle.std.specs.Prelude.{Ok, Err}
use Rattle.cm_pool.specs.Geometry.{Sizes}
use Rattle.cm_layout.specs.declared.half.Half.{Half}
use Rattle.cm_layout.specs.declared.half.Half.TheVariants.{Zero, One}
use Rattle.cm_layout.specs.declared.heads.HalfHead.{HalfHead}
use Rattle.cm_layout.specs.declared.heads.GroupHead.{GroupHead}
use Rattle.cm_layout.specs.declared.row.Row.{Row}
use Rattle.cm_layout.specs.declared.entry.Entry.{Entry}
use Rattle.cm_layout.specs.declared.entry_rule.EntryRule.{EntryRule}
use Rattle.cm_layout.specs.Offsets.{slot_size}
use Rattle.cm_layout.specs.Rows.{group_limit, row_with, entry_with, rows_after, slots_of_row}
use Rattle.cm_layout.specs.Rows.{slots_of}
use Rattle.cm_layout.specs.Rules.{broken_rule, broken_live_rule}
use Rattle.cm_layout.specs.Frames.{BareRow, BareEntry}
use Rattle.cm_verdict.specs.declared.defined_at.DefinedAt.{DefinedAt}
use Rattle.cm_verdict.specs.declared.fault.Damage.{Damage}
use Rattle.cm_verdict.specs.declared.fault.Damage.TheVariants as damage
use Rattle.cm_verdict.specs.declared.fault.FileFault.{FileFault}
use Rattle.cm_verdict.specs.declared.fault.FileFault.TheVariants.{Damaged}
use Rattle.cm_verdict.specs.Faults.{damage_of}
use Rattle.cm_verdict.specs.Decoding.{is_open, front, group_head_in, row_in, entry_in}
use Rattle.cm_verdict.specs.Decoding.{numbers_taken}

-- a class, with the slot of the entry that defined it
abbrev pub defined_at : ℕ → DefinedAt
defined_at slot = record { slot = slot }

abbrev pub placed_row : ℕ → BareRow → Row DefinedAt
placed_row slot row = row_with (λ u. defined_at slot) row

abbrev pub placed_entry : ℕ → BareEntry → Entry DefinedAt
placed_entry slot e = entry_with (λ u. defined_at slot) e

-- How far the walk through a half has come.
pub record Walked : Type 0 where
  -- the version of the half's entries
  pub version : ℕ
  -- the next slot
  pub slot : ℕ
  -- the live rows, and the number of the last command
  pub rows : List (Row DefinedAt)
  pub number : ℕ
  -- whether the walk is still in the live rows, and how many slots of these, or of the current
  -- group, are still to come
  pub live : Bool
  pub left : ℕ

-- What the next slots say: the half ends, the walk continues like this, or they are damaged.
pub data Turn : Type 0 where
  Stop : Turn
  Go : Walked → Turn
  Bad : Damage → Turn

-- ---- one row, entry or head

-- the walk after `taken` slots
abbrev pub behind_slots : Walked → ℕ → List (Row DefinedAt) → ℕ → Walked
behind_slots w taken rows number = record {
  version = w.version;
  slot = w.slot + taken;
  rows = rows;
  number = number;
  live = w.live;
  left = w.left - taken;
}

abbrev pub go_unless : Option EntryRule → Walked → Turn
go_unless None next = Go next
go_unless (Some rule) next = Bad (damage_of rule)

-- a live row; `first` is the number of the half's slot 0, counted over both halves
abbrev pub live_turn : Sizes → ℕ → Walked → Option BareRow → Turn
live_turn sizes first w None = Bad damage.Slot
live_turn sizes first w (Some row) =
    go_unless (broken_live_rule sizes w.number w.rows (placed_row (first + w.slot) row))
    (behind_slots w (slots_of_row row) (w.rows ++ placed_row (first + w.slot) row ∷ []) w.number)

-- an entry of a group
abbrev pub entry_turn : Sizes → ℕ → Walked → Option BareEntry → Turn
entry_turn sizes first w None = Bad damage.Slot
entry_turn sizes first w (Some e) =
    go_unless (broken_rule sizes w.rows (w.number + 1) (placed_entry (first + w.slot) e))
    (behind_slots w (slots_of e) (rows_after w.rows (placed_entry (first + w.slot) e))
    (w.number + 1))

-- a group's head is good: the group has at least one slot and at most 64, they lie in the half, and
-- the numbers of its entries continue from the last one and don't exceed 2^63
abbrev pub is_good_group : Sizes → Walked → GroupHead → List ℕ → Bool
is_good_group sizes w h entries =
    nat_le 1 h.count && nat_le h.count group_limit && nat_le (w.slot + h.count) (sizes.slots - 1)
    && (h.first == w.number + 1)
    && nat_le (w.number + numbers_taken w.version h.count entries) (2 ^ 63)

abbrev pub begun : Walked → GroupHead → Walked
begun w h = record {
  version = w.version;
  slot = w.slot + 1;
  rows = w.rows;
  number = w.number;
  live = false;
  left = h.count;
}

abbrev pub group_turn : Sizes → Walked → List ℕ → Option GroupHead → Turn
group_turn sizes w entries None = Bad damage.Head
group_turn sizes w entries (Some h) =
    if is_good_group sizes w h entries then Go (begun w h) else Bad damage.Head

-- the slot after the live rows and after each group is a gate
abbrev pub gate_turn : Sizes → Walked → List ℕ → Turn
gate_turn sizes w slots =
    if is_open slots
    then group_turn sizes w (drop slot_size slots) (group_head_in (front slots)) else Stop

-- what the slots from here on say first; a long name's continuation slot may not lie past the live
-- rows or the group
unfoldable pub turn : Sizes → ℕ → Walked → List ℕ → Turn
turn sizes first w slots =
    if w.left == 0 then gate_turn sizes w slots
    else if w.live
    then live_turn sizes first w (row_in w.version (take (slot_size * w.left) slots))
    else entry_turn sizes first w (entry_in w.version (take (slot_size * w.left) slots))

-- ---- the half

abbrev pub from_slot : List ℕ → ℕ → List ℕ
from_slot half slot = drop (slot_size * slot) half

-- how a walk continues after slots, the first of which has this number, counted over both halves
abbrev pub on_turn : ℕ → Walked → (Walked → Result Walked FileFault) → Turn
    → Result Walked FileFault
on_turn at w go_on Stop = Ok w
on_turn at w go_on (Go next) = go_on next
on_turn at w go_on (Bad what) = Err (Damaged what at)

-- the walk to the half's end, in at most this many turns
unfoldable pub walk : Sizes → ℕ → List ℕ → ℕ → Walked → Result Walked FileFault
walk sizes first half zero w = Ok w
walk sizes first half (suc turns) w =
    if nat_lt w.slot sizes.slots
    then on_turn (first + w.slot) w (λ next. walk sizes first half turns next)
    (turn sizes first w (from_slot half w.slot)) else Ok w

-- the walk before the first slot after the half's head
abbrev pub start : HalfHead → Walked
start h = record {
  version = h.version;
  slot = 1;
  rows = [];
  number = h.base;
  live = true;
  left = h.live;
}

-- the number of a half's slot 0, counted over both halves
abbrev pub first_slot : Sizes → Half → ℕ
first_slot sizes Zero = 0
first_slot sizes One = sizes.slots
