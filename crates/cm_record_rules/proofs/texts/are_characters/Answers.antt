use Rattle.std.proofs.Common.{◌<◌, ◌≤◌, ◌+◌, ◌∙◌, ap, length, refl, arith}
use Rattle.std.proofs.lemmas.Bool.{eqb-true}
use Rattle.cm_record_rules.proofs.TextRuns.{more_text, more_runs, counted_forms}
use Rattle.cm_record_rules.proofs.texts.are_characters.Goals as goal

pub loop-index-preserved : goal.loop-index-preserved
loop-index-preserved c =
    let class = c.args.class.now in
    let before = c.loop-index.invariant in
    let index = c.loop-index.index in
    let len = length c.utf8-len.result.now in
    let lt : index < length class.slots =
    omega (arith, c.loop-index-test.true, c.last_index-last.ensures) in
    record {
      within = omega arith;
      bytes_are = more_text class index (index + 1) len refl lt (ap length c.utf8-len.ensures)
          c.loop-index.bytes before.bytes_are;
      filled_are = more_runs class index (index + 1) len refl lt (ap length c.utf8-len.ensures)
          c.loop-index.filled before.filled_are;
      bytes_few = omega (arith, before.bytes_few, c.if-len-gt-MOST.false);
      filled_few = omega (arith, before.filled_few, c.if-len-gt-MOST.false);
    }

pub returns : goal.returns
returns c = λ same.
    let class = c.args.class.now in
    let whole : length class.slots ≤ c.loop-index.index =
    omega (arith, c.loop-index-test.false, c.last_index-last.ensures) in
    counted_forms class c.loop-index.index c.loop-index.bytes c.count_characters.result whole
    c.loop-index.invariant.bytes_are (c.count_characters.ensures ∙ c.utf8_words.ensures)
    (eqb-true c.count_characters.result c.loop-index.bytes same)
