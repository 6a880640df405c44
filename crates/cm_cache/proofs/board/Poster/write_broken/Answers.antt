use Rattle.std.proofs.Common.{sym, ◌∙◌, arith}
use Rattle.cm_cache.proofs.BoardSteps.{posts_broken}
use Rattle.cm_cache.proofs.board.Poster.write_broken.Goals as goal

pub store-requires : goal.store-requires
store-requires g c =
    let mine = c.self.invariant in (
      mine.0 ∙ sym c.args.board.now.is_named,
      (let two = c.args.board.now.has_words in omega (arith, two)),
      posts_broken _ _ _ _ mine.1,
    )
