use Rattle.std.proofs.Common.{ap, ◌∙◌}
use Rattle.cm_cache.specs.declared.board_view.Seen.{Seen}
use Rattle.cm_cache.proofs.Moments.{shows_from}
use Rattle.cm_cache.proofs.board.Poster.post.Goals as goal

pub returns-clause-stored : goal.returns-clause-stored
returns-clause-stored g c = record {
  each = λ image is.
      shows_from c.args.committer.now _
      (ap (λ (s : Seen). s.receipt.number) c.write_number.ensures ∙ c.number-new.ensures) image
      (c.images.ensures.each image is);
}
