use Rattle.std.proofs.Common.{◌+◌, List, length, sym, ap, arith}
use Rattle.std.proofs.lemmas.List.{take_rest}
use Rattle.cm_group.specs.Groups.{Carried}
use Rattle.cm_commit.specs.GroupPlans.{all_writes}
use Rattle.cm_commit.proofs.NextRecords.{from_past, from_few, from_count}
use Rattle.cm_commit.proofs.entries.writes_from.Goals as goal

pub returns-then-entry-entries-clause-value : goal.returns-then-entry-entries-clause-value
returns-then-entry-entries-clause-value c =
    sym (ap length (from_past c.args.entries.now c.args.entry c.args.number
    c.if-entry-entries.true))

pub all_writes-requires : goal.all_writes-requires
all_writes-requires c =
    let all = c.args.entries.now in
    omega (
      arith,
      ap (λ (l : List Carried). length (all_writes l)) (take_rest all (c.args.entry + 1)),
      from_few all c.args.entry c.index-entries-entry.result c.if-entry-entries.false
          c.index-entries-entry.is,
      c.requires,
    )

pub overflow_add-result : goal.overflow_add-result
overflow_add-result c =
    let all = c.args.entries.now in
    omega (
      arith,
      ap (λ (l : List Carried). length (all_writes l)) (take_rest all (c.args.entry + 1)),
      from_few all c.args.entry c.index-entries-entry.result c.if-entry-entries.false
          c.index-entries-entry.is,
      c.requires,
      c.writes_in.ensures,
      c.saturating_sub.ensures,
      c.all_writes.ensures,
    )

pub returns-clause-value : goal.returns-clause-value
returns-clause-value c =
    let all = c.args.entries.now in
    omega (
      arith,
      ap (λ (l : List Carried). length (all_writes l)) (take_rest all (c.args.entry + 1)),
      from_count all c.args.entry c.args.number c.index-entries-entry.result
          c.if-entry-entries.false c.index-entries-entry.is,
      c.writes_in.ensures,
      c.saturating_sub.ensures,
      c.all_writes.ensures,
    )

pub returns-clause-few : goal.returns-clause-few
returns-clause-few c =
    let all = c.args.entries.now in
    omega (
      arith,
      ap (λ (l : List Carried). length (all_writes l)) (take_rest all (c.args.entry + 1)),
      from_few all c.args.entry c.index-entries-entry.result c.if-entry-entries.false
          c.index-entries-entry.is,
      c.requires,
      c.writes_in.ensures,
      c.saturating_sub.ensures,
      c.all_writes.ensures,
    )
