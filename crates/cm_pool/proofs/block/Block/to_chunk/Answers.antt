use Rattle.std.proofs.Common.{◌-◌, arith}
use Rattle.std.proofs.lemmas.Nat.{one_shl}
use Rattle.cm_pool.proofs.Places.{in_root-fits, chunk_at-same, chunk_at-block}
use Rattle.cm_pool.proofs.block.Block.to_chunk.Goals as goal

pub overflow_mul-result : goal.overflow_mul-result
overflow_mul-result c =
    rw (
      one_shl (c.args.top - c.args.self.order) 32 (omega arith),
      c.chunk_words.ensures,
    )
    (omega (
      arith,
      in_root-fits c.args.self.index c.args.top c.args.self.order c.requires.within
          c.requires.top,
    ))

pub returns-clause-same : goal.returns-clause-same
returns-clause-same c =
    rw (
      one_shl (c.args.top - c.args.self.order) 32 (omega arith),
      c.chunk_words.ensures,
    )
    (chunk_at-same c.args.top c.args.self c.requires.within)

pub returns-clause-within : goal.returns-clause-within
returns-clause-within c = λ roots within.
    rw (
      one_shl (c.args.top - c.args.self.order) 32 (omega arith),
      c.chunk_words.ensures,
    )
    (chunk_at-block c.args.top c.args.self roots c.requires.within within)
