use Rattle.std.proofs.Common.{ap, sym, ◌∙◌, arith}
use Rattle.cm_cache.proofs.BoardSteps.{hears, compares}
use Rattle.cm_cache.proofs.board.Poster.compare.Goals as goal

pub join_seat-requires : goal.join_seat-requires
join_seat-requires g c =
    let mine = c.self.invariant in
    let theirs = c.reader.invariant in
    let named = c.args.board.now.is_named in (
      mine.0 ∙ sym named,
      theirs.0 ∙ sym named,
      theirs.2,
      (let two = c.args.board.now.has_words in omega (arith, two)),
      hears _ _ _ _,
    )

pub load-requires : goal.load-requires
load-requires g c =
    let mine = c.self.invariant in
    let named = c.args.board.now.is_named in
    let joined = c.join_seat.ensures in (
      joined.0 ∙ mine.0 ∙ sym named,
      (let two = c.args.board.now.has_words in omega (arith, two)),
      compares _ _ _ _ (ap (λ m. m.0.posts) joined.2 ∙ mine.1),
    )
