use Rattle.std.proofs.Common.{get_or, arith}
use Rattle.cm_words.proofs.WordBytes.{word_back, words_back}
use Rattle.cm_words.proofs.laws.bytes_tell_words.Goals as goal

pub returns : goal.returns
returns c = words_back c.args.words.now
    (λ j small. word_back (get_or c.args.words.now j 0) (omega (arith, c.type_inv.words j)))
