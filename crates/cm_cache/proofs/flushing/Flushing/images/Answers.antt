use Rattle.std.proofs.Common.{subst}
use Rattle.cm_guards.specs.Guards.{EachImage}
use Rattle.cm_commit.specs.States.{CommitterState, MayLeave}
use Rattle.cm_cache.specs.Closing.{ShowsPosted}
use Rattle.cm_cache.specs.Flushing.{FlushingState}
use Rattle.cm_cache.proofs.Moments.{shows_posted}
use Rattle.cm_cache.proofs.flushing.Flushing.images.Goals as goal

pub returns : goal.returns
returns g c =
    let view = g.D.Disk.view in
    let images = subst
    (λ (s : CommitterState g.row.D.Denot). EachImage (view.contents s.disk) (view.unsynced s.disk)
    (MayLeave s))
    c.committer.ensures c.images.ensures in
    subst
    (λ (f : FlushingState g.row.D.Denot). EachImage (view.contents f.committer.disk)
    (view.unsynced f.committer.disk) (ShowsPosted g.K.Naming.base f.received f.posted))
    c.self.view_is
    (record {
      each = λ image is.
          shows_posted _ _ _ _ c.self.invariant image (images.each image is);
    })
