use Rattle.std.proofs.Common.{◌≡◌, ◌+◌, ◌∙◌, ap, length, sym, arith}
use Rattle.std.proofs.lemmas.Bool.{eqb-true}
use Rattle.cm_record_rules.specs.Plain.{count_characters}
use Rattle.cm_record_rules.proofs.TextRuns.{count_split, count_most}
use Rattle.cm_record_rules.proofs.texts.count_characters.Goals as goal

pub overflow_add-count : goal.overflow_add-count
overflow_add-count c =
    let rest = c.loop-rest.rest.now in
    let before : c.loop-rest.count + count_characters rest ≡ count_characters c.args.bytes.now =
    c.loop-rest.invariant in
    omega (
      arith,
      before,
      c.from-count.ensures,
      c.count_few.ensures,
      ap count_characters c.split_at.ensures.front,
      count_split c.min.result rest,
      count_most c.args.bytes.now,
      c.requires,
    )

pub loop-rest-preserved : goal.loop-rest-preserved
loop-rest-preserved c =
    let rest = c.loop-rest.rest.now in
    let before : c.loop-rest.count + count_characters rest ≡ count_characters c.args.bytes.now =
    c.loop-rest.invariant in
    let after : c.loop-rest.count + c.from-count.result
    + count_characters c.split_at.result.1.now ≡ count_characters c.args.bytes.now =
    omega (
      arith,
      before,
      c.from-count.ensures,
      c.count_few.ensures,
      ap count_characters c.split_at.ensures.front,
      ap count_characters c.split_at.ensures.back,
      count_split c.min.result rest,
    ) in
    after

pub returns : goal.returns
returns c =
    let rest = c.loop-rest.rest.now in
    let before : c.loop-rest.count + count_characters rest ≡ count_characters c.args.bytes.now =
    c.loop-rest.invariant in
    let none : length rest ≡ 0 =
    eqb-true (length rest) 0 (sym c.is_empty.ensures ∙ c.loop-rest-test.false) in
    omega (arith, before, none, count_most rest)
