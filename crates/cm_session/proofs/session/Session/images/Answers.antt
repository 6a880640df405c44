use Rattle.cm_session.proofs.Shown.{stands_for_some}
use Rattle.cm_session.proofs.session.Session.images.Goals as goal

pub returns : goal.returns
returns g c =
    let s = c.args.self.now in
    let laws = c.committed_rows_are_the_machines.ensures in
    λ k i. record {
      each = λ image is.
          stands_for_some laws.committed laws.counted laws.rows k s.front s.committer
          s.queue.groups.items s.sealed s.has_failed i image (c.images.ensures.each image is);
    }
