use Rattle.std.proofs.Common.{◌≡◌, ◌+◌, ◌<◌, ◌≤◌, ℕ, List, [], ◌∷◌, length, sym, ap, subst, arith}
use Rattle.std.specs.Prelude.{Ok, IfOk}
use Rattle.cm_layout.specs.Slots.{open_gate}
use Rattle.cm_group.specs.Groups.{Carried, entries_in}
use Rattle.cm_guards.specs.Stages.{Stage, Turn, TakesCall, CallsOnce, after_call}
use Rattle.cm_commit.specs.declared.step.CommitStep.TheVariants as step
use Rattle.cm_commit.specs.GroupPlans.{writes_left, root_write, all_writes, roots_of_entries}
use Rattle.cm_commit.specs.Steps.{next_gate, stages_at}
use Rattle.cm_commit.proofs.NextWrites.{next_root, grown, left_behind, calls_first, wrote_ok}
use Rattle.cm_commit.proofs.calls.grow.Goals as goal

too_few : (given all : List Carried) (needed roots : ℕ) → roots < needed
    → needed ≡ roots_of_entries (entries_in given) → given ≡ all
    → roots < roots_of_entries (entries_in all)
too_few given all needed roots lt needed_is same =
    omega (
      arith,
      lt,
      needed_is,
      ap (λ (l : List Carried). roots_of_entries (entries_in l)) same,
    )

enough : (given all : List Carried) (needed roots : ℕ) → needed ≤ roots
    → needed ≡ roots_of_entries (entries_in given) → given ≡ all
    → roots_of_entries (entries_in all) ≤ roots
enough given all needed roots le needed_is same =
    omega (
      arith,
      le,
      needed_is,
      ap (λ (l : List Carried). roots_of_entries (entries_in l)) same,
    )

pub returns-in_ok-write_root-clause-called : goal.returns-in_ok-write_root-clause-called
returns-in_ok-write_root-clause-called g c =
    let j = c.args.journal in
    let all = c.args.group.now.entries in
    let roots = c.args.roots in
    let lt = too_few c.entries.result.now all c.roots_needed.result roots
    c.if-roots-roots_needed.true c.roots_needed.ensures c.entries.ensures in
    calls_first g.D.Disk.view c.args.disk.now c.write_root.new.disk
    (writes_left j.geometry j.half j.end j.number all roots (all_writes all))
    (writes_left j.geometry j.half j.end j.number all (roots + 1) (all_writes all))
    (root_write j.geometry roots) (Turn (next_gate j) open_gate ∷ [])
    (Ok (step.Grow (roots + 1)))
    (next_root j.geometry j.half j.end j.number all roots (all_writes all) lt)
    (wrote_ok g.D.Disk.view c.args.disk.now c.write_root.new.disk (root_write j.geometry roots)
    c.in_ok-write_root.field-0 (step.Grow (roots + 1))
    c.in_ok-write_root.ensures.written)

pub returns-in_ok-write_root-clause-next : goal.returns-in_ok-write_root-clause-next
returns-in_ok-write_root-clause-next g c =
    let j = c.args.journal in
    let all = c.args.group.now.entries in
    let roots = c.args.roots in
    let lt = too_few c.entries.result.now all c.roots_needed.result roots
    c.if-roots-roots_needed.true c.roots_needed.ensures c.entries.ensures in
    left_behind (writes_left j.geometry j.half j.end j.number all roots (all_writes all))
    (writes_left j.geometry j.half j.end j.number all (roots + 1) (all_writes all))
    (root_write j.geometry roots) (Turn (next_gate j) open_gate ∷ [])
    (next_root j.geometry j.half j.end j.number all roots (all_writes all) lt)

pub write_next-requires-clause-fits : goal.write_next-requires-clause-fits
write_next-requires-clause-fits g c =
    let group = c.args.group.now in
    let le = enough c.entries.result.now group.entries c.roots_needed.result c.args.roots
    c.if-roots-roots_needed.false c.roots_needed.ensures c.entries.ensures in
    subst (λ (s : List Stage). TakesCall s (length (g.D.Disk.view.contents c.args.disk.now)))
    (sym (grown c.args.journal group c.args.roots le)) c.requires.fits

pub returns-else-roots-roots_needed-clause-called :
    goal.returns-else-roots-roots_needed-clause-called
returns-else-roots-roots_needed-clause-called g c =
    let group = c.args.group.now in
    let le = enough c.entries.result.now group.entries c.roots_needed.result c.args.roots
    c.if-roots-roots_needed.false c.roots_needed.ensures c.entries.ensures in
    subst (λ (s : List Stage). CallsOnce g.D.Disk.view s c.args.disk.now c.write_next.new.disk
    c.write_next.result)
    (grown c.args.journal group c.args.roots le) c.write_next.ensures.called

pub returns-else-roots-roots_needed-clause-next : goal.returns-else-roots-roots_needed-clause-next
returns-else-roots-roots_needed-clause-next g c =
    let group = c.args.group.now in
    let le = enough c.entries.result.now group.entries c.roots_needed.result c.args.roots
    c.if-roots-roots_needed.false c.roots_needed.ensures c.entries.ensures in
    subst (λ (left : List Stage). IfOk c.write_next.result
    (λ s. stages_at c.args.journal group s ≡ after_call left))
    (grown c.args.journal group c.args.roots le) c.write_next.ensures.next
