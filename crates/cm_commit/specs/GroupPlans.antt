-- The device calls that store a group, in their order: zeros for each root by which the file grows,
-- the records, the slots after the gate with a shut slot after them, a sync, the gate, a sync.
use Rattle.std.specs.Prelude.{ℕ, zero, suc, ◌+◌, ◌-◌, ◌/◌, max, List, [], ◌∷◌, ◌++◌, map}
use Rattle.std.specs.Prelude.{nat_lt, if◌then◌else◌}
use Rattle.std.specs.List.{flat_map}
use Rattle.cm_record_layout.specs.Packing.{word_bytes}
use Rattle.cm_pool.specs.Geometry.{Sizes}
use Rattle.cm_pool.specs.declared.place.Place.{Place}
use Rattle.cm_layout.specs.declared.half.Half.{Half}
use Rattle.cm_layout.specs.declared.row.Row.TheVariants.{Loader, Class}
use Rattle.cm_layout.specs.declared.entry.Entry.{Entry}
use Rattle.cm_layout.specs.declared.entry.Entry.TheVariants as entry
use Rattle.cm_layout.specs.Offsets.{slot_size, slot_at, roots_at, root_at, root_size, record_at}
use Rattle.cm_layout.specs.Slots.{open_gate, group_head_rest, entry_slots}
use Rattle.cm_layout.specs.Rows.{slots_of_entries, move_writes}
use Rattle.cm_layout.specs.Frames.{BareRow, BareEntry}
use Rattle.cm_layout.specs.Zeros.{blank}
use Rattle.cm_guards.specs.Plans.{Write}
use Rattle.cm_group.specs.Groups.{Carried, entries_in}
use Rattle.cm_guards.specs.Stages.{Stage, Store, Turn}
use Rattle.cm_commit.specs.declared.journal_end.JournalEnd.{JournalEnd}
use Rattle.cm_commit.specs.Committed.{Committed, end_slot}
use Rattle.cm_commit.specs.Checkpoints.{checkpoint_of, is_due, target_of}

-- ---- roots

-- how many whole roots a file of this length has
abbrev pub whole_roots : Sizes → ℕ → ℕ
whole_roots sizes len = (len - roots_at sizes) / root_size sizes

-- how many roots the records of an entry need, and those of a group: one more than the greatest
abbrev pub roots_of_entry : {P : Type 0} → Entry P → ℕ
roots_of_entry (entry.Live (Loader r)) = 0
roots_of_entry (entry.Live (Class r p)) = r.place.chunk.root + 1
roots_of_entry (entry.Unload e) = 0
roots_of_entry (entry.Move e) = e.to.root + 1
roots_of_entry (entry.UnloadAll e) = 0

abbrev pub roots_of_entries : List BareEntry → ℕ
roots_of_entries [] = 0
roots_of_entries (e ∷ entries) = max (roots_of_entry e) (roots_of_entries entries)

-- by how many roots the file grows, one root of zeros after another
abbrev pub roots_to_add : Sizes → ℕ → List BareEntry → ℕ
roots_to_add sizes len entries = roots_of_entries entries - whole_roots sizes len

abbrev pub root_write : Sizes → ℕ → Write
root_write sizes root = record { at = root_at sizes root; bytes = blank (root_size sizes) }

abbrev pub root_writes : Sizes → ℕ → ℕ → List Write
root_writes sizes from zero = []
root_writes sizes from (suc n) = root_write sizes from ∷ root_writes sizes (from + 1) n

-- ---- records

-- what an entry writes: each record with its place
abbrev pub writes_of : Entry (List ℕ) → List (List ℕ) → List (Place × List ℕ)
writes_of (entry.Live (Loader r)) moved = []
writes_of (entry.Live (Class r words)) moved = (r.place, words) ∷ []
writes_of (entry.Unload e) moved = []
writes_of (entry.Move e) moved = move_writes e.to 0 moved
writes_of (entry.UnloadAll e) moved = []

-- what a group writes, in the order of the entries
abbrev pub all_writes : List Carried → List (Place × List ℕ)
all_writes carried = flat_map (λ c. writes_of c.entry c.moved) carried

abbrev pub place_write : Sizes → Place → List ℕ → Write
place_write sizes place words =
    record { at = record_at sizes place; bytes = word_bytes words }

abbrev pub record_writes : Sizes → List (Place × List ℕ) → List Write
record_writes sizes writes = map (λ w. place_write sizes w.0 w.1) writes

-- ---- slots

-- a shut slot after a group, if the half has one
abbrev pub shut_slot : Sizes → ℕ → List ℕ
shut_slot sizes slot = if nat_lt slot sizes.slots then blank slot_size else []

-- a group's slots from byte 1 on, and the one after them; its first entry has the number after n
abbrev pub slots_behind_gate : ℕ → List BareEntry → List ℕ
slots_behind_gate n entries =
    group_head_rest (record { count = slots_of_entries entries; first = n + 1 })
    ++ flat_map entry_slots entries

abbrev pub slots_write : Sizes → Half → ℕ → ℕ → List BareEntry → Write
slots_write sizes half slot n entries = record {
  at = slot_at sizes half slot + 1;
  bytes = slots_behind_gate n entries ++ shut_slot sizes (slot + slots_of_entries entries + 1);
}

-- ---- the plan

-- The writes of a group that are left, if the group begins at this slot after the n-th command, the
-- file has this many whole roots by now, and the last of the records, `unwritten`, aren't written
-- yet.
abbrev pub writes_left : Sizes → Half → ℕ → ℕ → List Carried → ℕ → List (Place × List ℕ)
    → List Write
writes_left sizes half slot n carried roots unwritten =
    root_writes sizes roots (roots_of_entries (entries_in carried) - roots)
    ++ record_writes sizes unwritten
    ++ slots_write sizes half slot n (entries_in carried) ∷ []

-- all of these writes, and then the gate
abbrev pub plan_at : Sizes → Half → ℕ → ℕ → ℕ → List Carried → List Stage
plan_at sizes half slot n roots carried =
    Store (writes_left sizes half slot n carried roots (all_writes carried))
    ∷ Turn (slot_at sizes half slot) open_gate ∷ []

-- where the gate of a group is
abbrev pub gate_at : Committed → ℕ
gate_at c = slot_at c.sizes c.framing.counting (end_slot c.framing)

-- the group's writes, for a file of this length
abbrev pub group_writes : Committed → ℕ → List Carried → List Write
group_writes c len carried =
    writes_left c.sizes c.framing.counting (end_slot c.framing) c.number carried
    (whole_roots c.sizes len) (all_writes carried)

abbrev pub group_plan : Committed → ℕ → List Carried → List Stage
group_plan c len carried =
    plan_at c.sizes c.framing.counting (end_slot c.framing) c.number (whole_roots c.sizes len)
    carried

-- ---- with a checkpoint

-- What stores a group, given where the journal continues, its live rows, and how many whole roots
-- the file has: a checkpoint if the half that counts has no room for the group, and then the group.
abbrev pub plan_of : JournalEnd → List BareRow → ℕ → List Carried → List Stage
plan_of j rows roots carried =
    let to = target_of j rows carried in
    (if is_due j carried then checkpoint_of j rows else [])
    ++ plan_at to.geometry to.half to.end to.number roots carried
