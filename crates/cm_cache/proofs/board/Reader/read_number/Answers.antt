use Rattle.std.proofs.Common.{sym, ◌∙◌, arith}
use Rattle.cm_cache.proofs.BoardSteps.{sees_number}
use Rattle.cm_cache.proofs.board.Reader.read_number.Goals as goal

pub load-requires : goal.load-requires
load-requires g c =
    let mine = c.self.invariant in (
      mine.0 ∙ sym c.args.board.now.is_named,
      (let two = c.args.board.now.has_words in omega (arith, two)),
      sees_number _ _ _ _ mine.1,
    )
