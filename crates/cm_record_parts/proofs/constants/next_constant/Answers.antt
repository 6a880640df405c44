use Rattle.std.proofs.Common.{◌∙◌, ◌+◌, ap, refl, arith}
use Rattle.cm_record_layout.specs.Packing.{first_of}
use Rattle.cm_record.specs.Constants.{word_kept}
use Rattle.cm_record_parts.proofs.NextConstants.{none_after, none_between, next_there}
use Rattle.cm_record_parts.proofs.NextConstants.{not_none}
use Rattle.cm_record_parts.proofs.constants.next_constant.Goals as goal

pub returns-in_default : goal.returns-in_default
returns-in_default c = λ d is start.
    none_after d c.args.words.now is c.args.after start
    (omega (arith, c.in_default.ensures, c.step_after.ensures))

pub returns-then-index-first : goal.returns-then-index-first
returns-then-index-first c = λ d is start.
    none_after d c.args.words.now is c.args.after start
    (omega (
      arith,
      c.in-Some.ensures.1,
      c.step_after.ensures,
      c.if-index-first.true,
      c.first.ensures ∙ ap first_of c.word_at.ensures,
    ))

pub returns-in_default-word_kept : goal.returns-in_default-word_kept
returns-in_default-word_kept c = λ d is start.
    let words = c.args.words.now in
    let found = next_there d words is c.args.after start
    (omega (
      arith,
      c.in-Some.ensures.1,
      c.step_after.ensures,
      c.if-index-first.false,
      c.first.ensures ∙ ap first_of c.word_at.ensures,
    )) c.in-Some.index _ (c.in-Some.ensures.1 ∙ ap (λ n. c.args.after + n) c.step_after.ensures)
    refl c.word_kept.result
    (c.word_kept.ensures ∙ (λ i. word_kept (c.word_at-2.ensures i) (c.word_at-3.ensures i))) in
    absurd (not_none c.word_kept.result c.in_default-word_kept.is found.1)

pub returns : goal.returns
returns c = λ d is start.
    let words = c.args.words.now in
    let found = next_there d words is c.args.after start
    (omega (
      arith,
      c.in-Some.ensures.1,
      c.step_after.ensures,
      c.if-index-first.false,
      c.first.ensures ∙ ap first_of c.word_at.ensures,
    )) c.in-Some.index _ (c.in-Some.ensures.1 ∙ ap (λ n. c.args.after + n) c.step_after.ensures)
    refl c.word_kept.result
    (c.word_kept.ensures ∙ (λ i. word_kept (c.word_at-2.ensures i) (c.word_at-3.ensures i))) in
    record {
      later = found.0;
      is = found.2 ∙ c.in-Some-word_kept.is;
      first = λ k later before. none_between d words is c.args.after start k later
          (omega (arith, before, c.in-Some.ensures.1, c.step_after.ensures));
    }
