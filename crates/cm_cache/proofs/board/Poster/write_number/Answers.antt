use Rattle.std.proofs.Common.{◌≤◌, subst, sym, ◌∙◌, arith}
use Rattle.cm_cache.specs.declared.board_view.Seen.{Seen}
use Rattle.cm_cache.proofs.BoardSteps.{posts_number}
use Rattle.cm_cache.proofs.board.Poster.write_number.Goals as goal

pub store-requires : goal.store-requires
store-requires g c =
    let mine = c.self.invariant in
    let up =
    subst (λ (s : Seen). s.receipt.number ≤ c.args.number) (sym c.self.view_is) c.requires in (
      mine.0 ∙ sym c.args.board.now.is_named,
      (let two = c.args.board.now.has_words in omega (arith, two)),
      posts_number _ _ _ _ _ mine.1 up,
    )
