use Rattle.std.proofs.Common.{subst}
use Rattle.cm_pool.specs.Geometry.{Sizes}
use Rattle.cm_guards.specs.Calls.{LeavesOnly}
use Rattle.cm_guards.proofs.{leaves_on}
use Rattle.cm_session.specs.Images.{StandsForSome}
use Rattle.cm_session.proofs.Stored.{past_trim, risen}
use Rattle.cm_session.proofs.session.Session.advance_group.Goals as goal

pub returns-then-is_trimmed-clause-machine : goal.returns-then-is_trimmed-clause-machine
returns-then-is_trimmed-clause-machine g c =
    let first = c.advance_work-progress in
    λ k matches. c.advance_work.ensures.machine k
    (past_trim k first.result (c.is_trimmed.ensures.is c.if-is_trimmed.true)
    (first.ensures.machine k matches))

pub returns-then-is_trimmed-clause-any_moment : goal.returns-then-is_trimmed-clause-any_moment
returns-then-is_trimmed-clause-any_moment g c =
    let disk = g.D.Disk in
    let old = c.args.self.now.committer in
    let first = c.advance_work-progress in
    let now = first.new.self.committer in
    let new = c.advance_work.new.self.committer in
    λ k matches. leaves_on disk.view old.disk now.disk new.disk
    (StandsForSome old.sizes k) (first.ensures.any_moment k matches)
    (subst (λ (z : Sizes). LeavesOnly disk.view now.disk new.disk
    (StandsForSome z k)) first.ensures.sizes
    (c.advance_work.ensures.any_moment k
    (past_trim k first.result (c.is_trimmed.ensures.is c.if-is_trimmed.true)
    (first.ensures.machine k matches))))

pub returns-then-is_trimmed-clause-cause : goal.returns-then-is_trimmed-clause-cause
returns-then-is_trimmed-clause-cause g c =
    let disk = g.D.Disk in
    let first = c.advance_work-progress in
    risen (disk.view.failures c.args.self.now.committer.disk)
    (disk.view.failures first.new.self.committer.disk)
    (disk.view.failures c.advance_work.new.self.committer.disk) first.result c.advance_work.result
    first.ensures.cause c.advance_work.ensures.cause
