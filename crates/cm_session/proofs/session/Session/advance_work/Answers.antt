use Rattle.std.proofs.Common.{subst, ◌∙◌}
use Rattle.cm_pool.specs.Geometry.{Sizes}
use Rattle.cm_guards.specs.Calls.{LeavesOnly}
use Rattle.cm_guards.proofs.{leaves_on}
use Rattle.cm_session.specs.Images.{StandsForSome}
use Rattle.cm_session.proofs.Stored.{some_left, goes_on, risen, no_trim, trim_done}
use Rattle.cm_session.proofs.session.Session.advance_work.Goals as goal

pub loop-progress-preserved : goal.loop-progress-preserved
loop-progress-preserved g c =
    let disk = g.D.Disk in
    let old = c.args.self.now.committer in
    let now = c.loop-progress.self.committer in
    let call = c.advance-progress-in-loop-progress in
    let new = call.new.self.committer in
    let kept = c.loop-progress.invariant in
    let does = call.ensures in
    let working = c.is_working.ensures.is c.loop-progress-test.true in (
      λ k matches. does.machine k
          (goes_on k c.loop-progress.progress working (kept.0 k matches)),
      λ again. some_left disk.view call.new.self.queue.groups.items now new call.result does.steps
          again,
      λ k matches. leaves_on disk.view old.disk now.disk new.disk
          (StandsForSome old.sizes k) (kept.2 k matches)
          (subst (λ (z : Sizes). LeavesOnly disk.view now.disk new.disk
          (StandsForSome z k)) kept.4
          (does.any_moment k (goes_on k c.loop-progress.progress working (kept.0 k matches)))),
      risen (disk.view.failures old.disk) (disk.view.failures now.disk)
          (disk.view.failures new.disk)
          c.loop-progress.progress call.result kept.3 does.cause,
      does.sizes ∙ kept.4,
      λ none. no_trim disk.view call.new.self.queue.groups.items now new call.result (kept.5 none).0
          does.steps,
      λ is. trim_done disk.view call.new.self.queue.groups.items now new call.result does.steps is,
    )

pub loop-progress-init : goal.loop-progress-init
loop-progress-init g c =
    let disk = g.D.Disk in
    let call = c.advance-progress in
    let old = c.args.self.now.committer in
    let new = call.new.self.committer in (
      call.ensures.machine,
      λ again. some_left disk.view call.new.self.queue.groups.items old new call.result
          call.ensures.steps again,
      call.ensures.any_moment,
      call.ensures.cause,
      call.ensures.sizes,
      λ none. no_trim disk.view call.new.self.queue.groups.items old new call.result none
          call.ensures.steps,
      λ is. trim_done disk.view call.new.self.queue.groups.items old new call.result
          call.ensures.steps is,
    )
