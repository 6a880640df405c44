use Rattle.std.proofs.Common.{refl, arith}
use Rattle.cm_pool.proofs.BitFacts.{lowest-first}
use Rattle.cm_pool.proofs.bit_words.lowest_bit.Goals as goal

pub returns : goal.returns
returns c =
    lowest-first c.args.words.now c.args.at _ c.requires.first refl
    (omega (arith, c.type_inv.words c.args.at))
