use Rattle.std.proofs.Common.{◌≤◌, ◌∙◌, ap, arith, take, length}
use Rattle.std.proofs.lemmas.List.{length-take-le}
use Rattle.cm_record.proofs.RunPlaces.{run_words_there}
use Rattle.cm_record.proofs.run.run_slice.Goals as goal

pub words_from-requires : goal.words_from-requires
words_from-requires c = c.requires.1.within

pub slice_bounds-result-end : goal.slice_bounds-result-end
slice_bounds-result-end c =
    let there = run_words_there c.args.words.now c.args.run c.requires.0 c.requires.1 in
    let within : c.run_words.result ≤ length c.words_from.result.now =
    omega (arith, c.run_words.ensures, ap length c.words_from.ensures, there.0) in
    omega (arith, length-take-le c.run_words.result c.words_from.result.now within)

pub returns : goal.returns
returns c = λ bytes is.
    let there = run_words_there c.args.words.now c.args.run bytes is in
    (λ i. take (c.run_words.ensures i) (c.words_from.ensures i)) ∙ there.1
