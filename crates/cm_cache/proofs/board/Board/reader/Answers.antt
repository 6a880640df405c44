use Rattle.std.proofs.Common.{[], arith}
use Rattle.cm_cache.specs.Board.{poster}
use Rattle.cm_cache.proofs.BoardSteps.{enters}
use Rattle.cm_cache.proofs.board.Board.reader.Goals as goal

pub load_new_seat-seat-requires : goal.load_new_seat-seat-requires
load_new_seat-seat-requires g c =
    let shared = c.args.self.now.table.shared in (
      (let two = c.args.self.now.has_words in omega (arith, two)),
      enters _ (poster shared.key, []),
    )
