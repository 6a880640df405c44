use Rattle.std.proofs.Common.{◌<◌, ◌==◌, ◌&&◌, length, arith, rules, tests, ap, sym, ◌∙◌}
use Rattle.std.specs.List.{list_all}
use Rattle.std.proofs.lemmas.Bool.{lt-ltb}
use Rattle.std.proofs.lemmas.Iterator.Search.{all_from_yields_List}
use Rattle.std.proofs.lemmas.Iterator.Splits.{YieldsList-from_slice_split}
use Rattle.std.proofs.lemmas.List.Splits.{length-slice_split}
use Rattle.cm_lines.specs.Lines.{pieces, is_word}
use Rattle.cm_lines.proofs.line.are_words.Goals as goal

pub returns : goal.returns
returns c =
    let text = c.args.text.now in
    let words = pieces 32 text in
    let some : 0 < length words = omega (arith, length-slice_split (λ b. b == 32) text) in
    all_from_yields_List is_word _ _ c.all.result c.all.ensures.ran
    (YieldsList-from_slice_split _ (λ b. b == 32) text c.split.ensures.rest c.split.ensures.done
    c.split.ensures.closure (λ x b q k. search (rules, tests))) (λ x b q k. search (rules, tests))
    ∙ sym (ap (λ t. t && list_all is_word words) (lt-ltb 0 (length words) some))
