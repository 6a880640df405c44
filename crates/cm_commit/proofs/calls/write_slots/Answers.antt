use Rattle.std.proofs.Common.{◌≤◌, ◌+◌, ◌^◌, ◌++◌, ℕ, ap, ◌∙◌, arith}
use Rattle.std.proofs.Math.Pow.{pow_mono}
use Rattle.cm_group.specs.Groups.{entries_in}
use Rattle.cm_commit.specs.GroupPlans.{slots_write, slots_behind_gate, shut_slot}
use Rattle.cm_commit.proofs.NextWrites.{wrote_as}
use Rattle.cm_commit.proofs.calls.write_slots.Goals as goal

pub put_slots-requires-clause-room : goal.put_slots-requires-clause-room
put_slots-requires-clause-room g c =
    let power : 2 ^ 3 ≤ 2 ^ c.args.journal.geometry.top = pow_mono c.requires.group.lawful.top_from
    in
    omega (arith, power, c.requires.room, c.slots-count.ensures.few)

pub returns-clause-written : goal.returns-clause-written
returns-clause-written g c =
    let j = c.args.journal in
    let es = entries_in c.args.group.now.entries in
    wrote_as g.D.Disk.view c.args.disk.now c.write_at.new.self
    (slots_write j.geometry j.half j.end j.number es)
    (record { at = c.slot_at-at.result + 1; bytes = c.deref.result.now }) c.write_at.result
    (ap (λ (k : ℕ). k + 1) c.slot_at-at.ensures)
    (c.deref.ensures.value
    ∙ (c.put_slots.ensures.bytes
    ∙ ((λ i. slots_behind_gate j.number (entries_in (c.entries.ensures i))
    ++ shut_slot j.geometry (j.end + c.slots-count.result + 1))
    ∙ ap (λ (k : ℕ). slots_behind_gate j.number es ++ shut_slot j.geometry (j.end + k + 1))
    c.slots-count.ensures.value)))
    c.write_at.ensures.writes
