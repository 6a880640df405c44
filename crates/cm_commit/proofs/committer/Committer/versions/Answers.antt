use Rattle.std.specs.Prelude.{vec_capacity}
use Rattle.std.specs.Arc.{arc_value}
use Rattle.cm_layout.specs.Rows.{rows_with}
use Rattle.cm_commit.proofs.Advancing.{newest_images}
use Rattle.cm_commit.specs.Steps.{committer_of}
use Rattle.cm_commit.proofs.committer.Committer.versions.Goals as goal

pub returns : goal.returns
returns g c =
    let s = c.self.inside in
    let rows = rows_with arc_value s.rows.rows in
    rw (← c.self.view_is)
    (newest_images g.D.Disk.view
    (committer_of s.disk s.journal rows s.roots s.group s.step s.is_broken) s.rows.sizes s.next
    s.roots (vec_capacity s.buffer) c.self.invariant)
