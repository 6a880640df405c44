use Rattle.std.proofs.Common.{◌∙◌, [], length, sym, ap, arith}
use Rattle.cm_words.specs.Places.{somes, filled}
use Rattle.cm_words.specs.Words.{words_of}
use Rattle.cm_words.proofs.Filled.{filled-empty, somes-filled}
use Rattle.cm_words.proofs.word_buf.WordBuf.with_capacity.Goals as goal

pub invariant_of-result : goal.invariant_of-result
invariant_of-result c =
    let n = c.args.capacity in
    let made = c.in_ok-base.ensures in
    let laid = made.1 ∙ sym (filled-empty n) in
    let kept = ap somes laid ∙ somes-filled [] n in
    record {
      place = made.0;
      deed_place = made.2;
      deed_len = made.3;
      deed_alloc = made.4;
      count = sym (ap length kept);
      room = omega arith;
      small = omega arith;
      laid = laid ∙ ap (λ l. filled l n) (sym kept);
    }

pub returns : goal.returns
returns c =
    let n = c.args.capacity in
    ap (λ l. words_of l n) (ap somes (c.in_ok-base.ensures.1 ∙ sym (filled-empty n))
    ∙ somes-filled [] n)
