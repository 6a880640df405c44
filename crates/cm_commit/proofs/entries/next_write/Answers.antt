use Rattle.std.proofs.Common.{sym, ◌∙◌, arith}
use Rattle.cm_commit.specs.GroupPlans.{writes_of}
use Rattle.cm_commit.proofs.NextRecords.{from_past, from_few, from_next, from_none, offsets_of}
use Rattle.cm_commit.proofs.NextRecords.{get-within}
use Rattle.cm_commit.proofs.entries.next_write.Goals as goal

pub write_of-requires : goal.write_of-requires
write_of-requires c =
    offsets_of c.args.entries.now c.loop-at.at c.index-entries-at.result c.loop-at-test.true
    c.index-entries-at.is c.requires.offsets

pub overflow_add-result : goal.overflow_add-result
overflow_add-result c =
    let one = c.index-entries-at.result in
    omega (
      arith,
      get-within (writes_of one.entry one.moved) c.loop-at.from _ c.in-Some.ensures,
      from_few c.args.entries.now c.loop-at.at one c.loop-at-test.true c.index-entries-at.is,
      c.requires.few,
    )

pub returns-in-Some : goal.returns-in-Some
returns-in-Some c =
    record {
      found = sym c.loop-at.invariant
          ∙ from_next c.args.entries.now c.loop-at.at c.loop-at.from c.index-entries-at.result _
          c.loop-at-test.true c.index-entries-at.is c.in-Some.ensures;
    }

pub loop-at-preserved : goal.loop-at-preserved
loop-at-preserved c =
    from_none c.args.entries.now c.loop-at.at c.loop-at.from c.index-entries-at.result
    c.loop-at-test.true c.index-entries-at.is c.in_default.ensures
    ∙ c.loop-at.invariant

pub returns : goal.returns
returns c =
    record {
      found = sym c.loop-at.invariant
          ∙ from_past c.args.entries.now c.loop-at.at c.loop-at.from
          (omega (arith, c.loop-at-test.false));
    }
