use Rattle.std.proofs.Common.{◌≡◌, false, true, length, sym, ◌∙◌}
use Rattle.std.proofs.lemmas.Bool.{eq-eqb}
use Rattle.cm_record.proofs.RunTests.{too_few_words, other_word, goes_on, goes_back}
use Rattle.cm_record.proofs.utf8.is_run.Goals as goal

pub returns-in_default : goal.returns-in_default
returns-in_default c =
    let l = c.loop-left in
    let some : length l.left.now ≡ 0
    → ⊥ = λ e. let both : false ≡ true =
    sym c.loop-left-test.true ∙ (c.is_empty.ensures ∙ eq-eqb (length l.left.now) 0 e) in cc in (
      λ no. absurd (let both : false ≡ true = no in cc),
      λ e. absurd (too_few_words c.args.words.now c.args.bytes.now l.rest.now l.left.now
          l.invariant.onward l.invariant.back some c.in_default.len_below e),
    )

pub returns-then-word_of-word : goal.returns-then-word_of-word
returns-then-word_of-word c =
    let l = c.loop-left in
    let some : length l.left.now ≡ 0
    → ⊥ = λ e. let both : false ≡ true =
    sym c.loop-left-test.true ∙ (c.is_empty.ensures ∙ eq-eqb (length l.left.now) 0 e) in cc in (
      λ no. absurd (let both : false ≡ true = no in cc),
      λ e. absurd (other_word c.args.words.now c.args.bytes.now l.rest.now l.left.now
          l.invariant.onward l.invariant.back some c.word_of.result c.word_of.ensures
          c.if-word_of-word.true e),
    )

pub loop-left-preserved : goal.loop-left-preserved
loop-left-preserved c =
    let l = c.loop-left in
    let some : length l.left.now ≡ 0
    → ⊥ = λ e. let both : false ≡ true =
    sym c.loop-left-test.true ∙ (c.is_empty.ensures ∙ eq-eqb (length l.left.now) 0 e) in cc in
    record {
      onward = goes_on c.args.words.now c.args.bytes.now l.rest.now l.left.now l.invariant.onward
          l.invariant.back some c.skip_eight-left.result.now c.skip_eight-left.ensures;
      back = goes_back c.args.words.now c.args.bytes.now l.rest.now l.left.now l.invariant.onward
          l.invariant.back some c.skip_eight-left.result.now c.skip_eight-left.ensures
          c.word_of.result c.in-len1-up.len_at_least c.word_of.ensures c.if-word_of-word.false;
    }
