use Rattle.std.proofs.Common.{◌≡◌, ◌∷◌, List, [], sym, ap, subst, ◌∙◌, arith}
use Rattle.std.specs.Prelude.{Ok}
use Rattle.cm_layout.specs.Offsets.{root_size}
use Rattle.cm_layout.specs.Slots.{open_gate}
use Rattle.cm_group.specs.Groups.{Carried, entries_in}
use Rattle.cm_guards.specs.Stages.{Turn}
use Rattle.cm_commit.specs.declared.step.CommitStep.TheVariants as step
use Rattle.cm_commit.specs.GroupPlans.{writes_left, slots_write, roots_of_entries}
use Rattle.cm_commit.specs.Steps.{next_gate, writes_from}
use Rattle.cm_commit.proofs.NextRecords.{small_from, small_first}
use Rattle.cm_commit.proofs.NextWrites.{next_slots, calls_first, wrote_ok}
use Rattle.cm_commit.proofs.calls.write_next.Goals as goal

pub write_record-requires-clause-room : goal.write_record-requires-clause-room
write_record-requires-clause-room g c =
    let size = root_size c.args.journal.geometry in
    let all = c.args.group.now.entries in
    let next = c.in-Some.next in
    omega (
      arith,
      small_first size (writes_from c.args.entry c.args.number all)
          (writes_from next.entry next.number all) next.place next.class.now
          (small_from size all c.args.entry c.args.number c.requires.group.small)
          (subst (λ (l : List Carried). writes_from c.args.entry c.args.number l
          ≡ (next.place, next.class.now) ∷ writes_from next.entry next.number l)
          c.entries.ensures c.in-Some.ensures.found),
      c.requires.room,
    )

pub returns-in_ok-write_slots-in-None-clause-called :
    goal.returns-in_ok-write_slots-in-None-clause-called
returns-in_ok-write_slots-in-None-clause-called g c =
    let j = c.args.journal in
    let all = c.args.group.now.entries in
    let needed = roots_of_entries (entries_in all) in
    let unwritten = writes_from c.args.entry c.args.number all in
    let write = slots_write j.geometry j.half j.end j.number (entries_in all) in
    let none = ap (writes_from c.args.entry c.args.number) (sym c.entries.ensures)
    ∙ c.in-None.ensures.found in
    calls_first g.D.Disk.view c.args.disk.now c.write_slots.new.disk
    (writes_left j.geometry j.half j.end j.number all needed unwritten) []
    write (Turn (next_gate j) open_gate ∷ []) (Ok step.Sync)
    (next_slots j.geometry j.half j.end j.number all needed unwritten (omega arith) none)
    (wrote_ok g.D.Disk.view c.args.disk.now c.write_slots.new.disk write
    c.in_ok-write_slots-in-None.field-0 step.Sync
    c.in_ok-write_slots-in-None.ensures.written)
