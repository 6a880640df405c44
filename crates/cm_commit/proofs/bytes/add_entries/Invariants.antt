use Rattle.std.proofs.Common.{◌≡◌, ◌≤◌, ◌++◌, drop, vec_capacity}
use Rattle.std.specs.List.{flat_map}
use Rattle.cm_layout.specs.Slots.{entry_slots}
use Rattle.cm_group.specs.Groups.{entries_in}
use Rattle.cm_commit.proofs.bytes.add_entries.Given as goal

abbrev pub invariant-loop-carried : goal.invariant-loop-carried
invariant-loop-carried l =
    record {
      bytes : l.buffer.items ++ flat_map entry_slots (entries_in (drop l.carried-index l.entries))
          ≡ l.initial.buffer.items ++ flat_map entry_slots (entries_in l.entries);
      room : vec_capacity l.initial.buffer ≤ vec_capacity l.buffer;
    }
