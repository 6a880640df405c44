use Rattle.std.proofs.Common.{◌≡◌, ℕ, ◌<◌}
use Rattle.cm_pool.specs.Bits.{word}
use Rattle.cm_pool.proofs.bit_words.first_word.Given as goal

abbrev pub invariant-loop-at : goal.invariant-loop-at
invariant-loop-at l = (j : ℕ) → j < l.at → word l.words j ≡ 0
