use Rattle.std.specs.Prelude.{vec_capacity}
use Rattle.std.specs.Arc.{arc_value}
use Rattle.cm_layout.specs.Rows.{bare, rows_with}
use Rattle.cm_commit.proofs.Advancing.{images, nothing_left}
use Rattle.cm_commit.specs.Steps.{committer_of}
use Rattle.cm_commit.proofs.committer.Committer.images.Goals as goal

pub returns : goal.returns
returns g c =
    let s = c.self.inside in
    let rows = rows_with arc_value s.rows.rows in
    rw (← c.self.view_is)
    (images g.D.Disk.view
    (committer_of s.disk s.journal rows s.roots s.group s.step s.is_broken) s.rows.sizes s.next
    s.roots (vec_capacity s.buffer) c.self.invariant
    (nothing_left s.journal (bare rows) s.roots s.group s.step))
