use Rattle.cm_cache.proofs.BoardSteps.{begins}
use Rattle.cm_cache.proofs.board.NewBoard.new.Goals as goal

pub of_words-requires : goal.of_words-requires
of_words-requires c = begins c.args.number
