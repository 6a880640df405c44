use Rattle.std.proofs.Common.{◌≡◌, ◌+◌, ◌++◌, List, length, drop, ap, ◌∙◌, arith}
use Rattle.std.specs.List.{flat_map}
use Rattle.std.proofs.lemmas.List.{length-append}
use Rattle.cm_layout.specs.Frames.{bare_entry}
use Rattle.cm_layout.specs.Slots.{entry_slots}
use Rattle.cm_group.specs.Groups.{Carried, entries_in}
use Rattle.cm_commit.proofs.Applied.{next_is}
use Rattle.cm_commit.proofs.bytes.add_entries.Goals as goal

pub unwrap-requires : goal.unwrap-requires
unwrap-requires c =
    let es = c.args.entries.now in
    let i = c.loop-carried.carried-index in
    let item = c.carried-item.result in
    let items = c.loop-carried.buffer.items in
    let left = flat_map entry_slots (entries_in (drop i es)) in
    let rest = flat_map entry_slots (entries_in (drop (i + 1) es)) in
    let slot = entry_slots (bare_entry item.entry) in
    let split : left ≡ slot ++ rest =
    ap (λ (l : List Carried). flat_map entry_slots (entries_in l))
    (next_is es i item (omega arith) c.carried-item.is) in
    let encoded : c.as_bytes.result.now ≡ slot =
    c.as_bytes.ensures ∙ c.encode-slots.ensures ∙ ap entry_slots c.bare.ensures in
    c.extend_from_slice.ensures.succeeds (omega (
      arith,
      ap length split,
      ap length encoded,
      ap length c.loop-carried.invariant.bytes,
      c.loop-carried.invariant.room,
      length-append items left,
      length-append slot rest,
      length-append c.args.buffer.now.items (flat_map entry_slots (entries_in es)),
      c.requires,
      c.loop-carried.buffer.ok.0,
    ))
