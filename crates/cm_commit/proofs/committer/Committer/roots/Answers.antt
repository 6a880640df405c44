use Rattle.std.proofs.Common.{sym, subst, ◌∙◌, ◌<◌, ◌^◌, ℕ}
use Rattle.std.specs.Prelude.{vec_capacity}
use Rattle.std.specs.Arc.{arc_value}
use Rattle.cm_layout.specs.Rows.{rows_with}
use Rattle.cm_commit.proofs.Advancing.{used_few}
use Rattle.cm_commit.specs.Steps.{committer_of}
use Rattle.cm_commit.proofs.Trims.{roots-with}
use Rattle.cm_commit.proofs.committer.Committer.roots.Goals as goal

pub used_roots-requires : goal.used_roots-requires
used_roots-requires g c =
    let s = c.self.inside in
    let rows = rows_with arc_value s.rows.rows in
    let v = committer_of s.disk s.journal rows s.roots s.group s.step s.is_broken in
    subst (λ (n : ℕ). n < 2 ^ 32) (roots-with arc_value s.rows.rows)
    (used_few g.D.Disk.view v s.rows.sizes s.next s.roots
    (vec_capacity s.buffer) c.self.invariant)

pub returns : goal.returns
returns g c =
    rw (← c.self.view_is)
    (c.used_roots.ensures ∙ sym (roots-with arc_value c.self.inside.rows.rows))
