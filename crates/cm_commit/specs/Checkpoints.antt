-- A checkpoint: the half of the journal that doesn't count is written anew, with the live rows, and
-- counts from then on. It takes six device calls: the other half's gate is shut or, if it is shut
-- already, all is synced instead (overwriting a shut gate could leave it open after a crash); a
-- sync; the half from the byte after its gate, with one slot of zeros after the rows; a sync; the
-- open gate's byte; a sync.
use Rattle.std.specs.Prelude.{ℕ, ◌+◌, Bool, true, false, List, [], ◌∷◌, ◌++◌, Some, nat_le}
use Rattle.std.specs.Prelude.{if◌then◌else◌}
use Rattle.std.specs.List.{flat_map}
use Rattle.cm_pool.specs.Geometry.{Sizes}
use Rattle.cm_layout.specs.declared.half.Half.{Half}
use Rattle.cm_layout.specs.declared.heads.HalfHead.{HalfHead}
use Rattle.cm_layout.specs.Offsets.{slot_size, half_at}
use Rattle.cm_layout.specs.Slots.{open_gate, half_head_rest, row_slots}
use Rattle.cm_layout.specs.Rows.{slots_of_rows, bare}
use Rattle.cm_layout.specs.Frames.{BareRow, entry_version}
use Rattle.cm_layout.specs.Framing.{Framing, other_half}
use Rattle.cm_layout.specs.Zeros.{blank}
use Rattle.cm_guards.specs.Plans.{Write}
use Rattle.cm_guards.specs.Stages.{Stage, Store, Turn}
use Rattle.cm_group.specs.Groups.{Carried, slots_taken}
use Rattle.cm_commit.specs.declared.journal_end.JournalEnd.{JournalEnd}
use Rattle.cm_commit.specs.Committed.{Committed, journal_of}

-- ---- the half that is written

-- the head of a half that is written anew when the other half has this epoch
abbrev pub next_head : ℕ → ℕ → List BareRow → HalfHead
next_head epoch number rows = record {
  version = entry_version;
  live = slots_of_rows rows;
  epoch = epoch + 1;
  base = number;
}

-- the bytes after its gate: the remainder of its head, the live rows, a slot of zeros
abbrev pub half_behind_gate : HalfHead → List BareRow → List ℕ
half_behind_gate head rows = half_head_rest head ++ (flat_map row_slots rows ++ blank slot_size)

abbrev pub half_write : Sizes → Half → HalfHead → List BareRow → Write
half_write sizes half head rows =
    record { at = half_at sizes half + 1; bytes = half_behind_gate head rows }

-- ---- the device calls

-- a gate's byte that isn't the open one
abbrev pub shut_gate : ℕ
shut_gate = 0

-- what shuts the half's gate, which may be open or not
abbrev pub shut_stages : Bool → ℕ → List Stage
shut_stages true gate = Turn gate shut_gate ∷ []
shut_stages false gate = Store [] ∷ Store [] ∷ []

-- the half is written, and its gate opened
abbrev pub half_stages : Sizes → Half → HalfHead → List BareRow → List Stage
half_stages sizes half head rows =
    Store (half_write sizes half head rows ∷ []) ∷ Turn (half_at sizes half) open_gate ∷ []

-- a checkpoint into this half, whose gate is open or not
abbrev pub checkpoint_stages : Sizes → Half → Bool → HalfHead → List BareRow → List Stage
checkpoint_stages sizes half is_open head rows =
    shut_stages is_open (half_at sizes half) ++ half_stages sizes half head rows

-- the checkpoint after which a journal with these live rows continues in its other half
abbrev pub checkpoint_of : JournalEnd → List BareRow → List Stage
checkpoint_of j rows =
    checkpoint_stages j.geometry (other_half j.half) j.other_open (next_head j.epoch j.number rows)
    rows

-- ---- when a checkpoint is due

-- A checkpoint is due if a group has no room between the end of the half that counts and the last
-- slot: it takes a slot for its head, and those of its entries.
abbrev pub is_due_at : Sizes → ℕ → List Carried → Bool
is_due_at sizes end carried = nat_le sizes.slots (end + slots_taken carried)

abbrev pub is_due : JournalEnd → List Carried → Bool
is_due j carried = is_due_at j.geometry j.end carried

-- where the journal continues after a checkpoint with these live rows
abbrev pub renewed_journal : JournalEnd → List BareRow → JournalEnd
renewed_journal j rows = record j {
  half = other_half j.half;
  end = 1 + slots_of_rows rows;
  epoch = j.epoch + 1;
  other_open = true;
}

-- where a group is written
abbrev pub target_of : JournalEnd → List BareRow → List Carried → JournalEnd
target_of j rows carried = if is_due j carried then renewed_journal j rows else j

-- ---- what is committed

-- What is committed is the same after a checkpoint, except for the halves: the one that counted is
-- now the older one.
abbrev pub renewed_framing : Committed → Framing
renewed_framing c = record {
  counting = other_half c.framing.counting;
  head = next_head c.framing.head.epoch c.number (bare c.rows);
  live = bare c.rows;
  groups = [];
  older = Some c.framing.head;
}

abbrev pub renewed : Committed → Committed
renewed c = record c { framing = renewed_framing c }

abbrev pub checkpoint_plan : Committed → List Stage
checkpoint_plan c = checkpoint_of (journal_of c) (bare c.rows)

-- what is committed, in halves that have room for the group
abbrev pub ready_for : Committed → List Carried → Committed
ready_for c carried = record c {
  framing = if is_due (journal_of c) carried then renewed_framing c else c.framing;
}
