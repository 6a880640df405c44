use Rattle.std.proofs.Common.{◌+◌, arith}
use Rattle.cm_group.specs.Groups.{entries_in}
use Rattle.cm_commit.specs.GroupPlans.{slots_behind_gate}
use Rattle.cm_commit.proofs.SlotsPut.{front_put, with_shut, without_shut}
use Rattle.cm_commit.proofs.bytes.put_slots.Goals as goal

pub returns-then-journal-from-clause-bytes : goal.returns-then-journal-from-clause-bytes
returns-then-journal-from-clause-bytes c =
    let j = c.args.journal in
    let es = entries_in c.args.entries.now in
    with_shut j.geometry (j.end + c.args.count + 1) (slots_behind_gate j.number es)
    c.add_entries.new.buffer.items c.add_shut_slot.new.buffer.items
    (omega (arith, c.if-journal-from.true, c.from.ensures, c.slots.ensures.value))
    (front_put j.number c.args.count es c.put_head.new.buffer.items
    c.add_entries.new.buffer.items c.requires.count c.put_head.ensures.bytes
    c.add_entries.ensures.bytes)
    c.add_shut_slot.ensures.bytes

pub returns-else-journal-from-clause-bytes : goal.returns-else-journal-from-clause-bytes
returns-else-journal-from-clause-bytes c =
    let j = c.args.journal in
    let es = entries_in c.args.entries.now in
    without_shut j.geometry (j.end + c.args.count + 1) (slots_behind_gate j.number es)
    c.add_entries.new.buffer.items
    (omega (arith, c.if-journal-from.false, c.from.ensures, c.slots.ensures.value))
    (front_put j.number c.args.count es c.put_head.new.buffer.items
    c.add_entries.new.buffer.items c.requires.count c.put_head.ensures.bytes
    c.add_entries.ensures.bytes)
