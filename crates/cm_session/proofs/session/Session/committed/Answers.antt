use Rattle.cm_session.proofs.Shown.{shows_committed}
use Rattle.cm_session.proofs.session.Session.committed.Goals as goal

pub returns : goal.returns
returns g c =
    λ none. record {
      each = λ image is.
          shows_committed c.args.self.now.committer none image (c.images.ensures.each image is);
    }
