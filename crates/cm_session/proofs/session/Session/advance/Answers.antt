use Rattle.std.proofs.Common.{Bool, subst, sym, ◌∙◌}
use Rattle.cm_pool.specs.Geometry.{Sizes}
use Rattle.cm_guards.specs.Calls.{LeavesOnly}
use Rattle.cm_commit.specs.Advances.{CallsDevice}
use Rattle.cm_commit.specs.States.{MayLeave}
use Rattle.cm_session.specs.Images.{StandsForSome}
use Rattle.cm_session.specs.Moves.{ReachesMachine, Advancing}
use Rattle.cm_session.specs.Session.{IsSession}
use Rattle.cm_session.proofs.Shown.{stands_for_some, leaves_so}
use Rattle.cm_session.proofs.Stepping.{advanced}
use Rattle.cm_session.proofs.Past.{past_advanced}
use Rattle.cm_session.proofs.session.Session.advance.Goals as goal

pub returns-clause-machine : goal.returns-clause-machine
returns-clause-machine g c =
    let s = c.offer_next.new.self in
    λ k i. subst (λ (b : Bool). ReachesMachine (Advancing k c.advance-progress.result)
    (λ j. IsSession j s.front c.advance-progress.new.self s.queue.groups.items s.sealed b))
    (sym c.has_failed-self.ensures)
    (advanced c.handed_groups_are_next.ensures.committed
    c.committed_rows_are_the_machines.ensures.committed k s.front s.committer
    c.advance-progress.new.self s.queue.groups.items s.sealed s.has_failed
    (c.offer_next.ensures.machine k i) (c.offer_next.ensures.taken k i)
    c.advance-progress.result c.advance-progress.ensures.moved)

pub returns-clause-any_moment : goal.returns-clause-any_moment
returns-clause-any_moment g c =
    let s = c.offer_next.new.self in
    let disk = g.D.Disk in
    let laws = c.committed_rows_are_the_machines.ensures in
    λ k i. subst (λ d. LeavesOnly disk.view d c.advance-progress.new.self.disk
    (StandsForSome c.args.self.now.committer.sizes k)) c.offer_next.ensures.disk
    (subst (λ (z : Sizes). LeavesOnly disk.view s.committer.disk
    c.advance-progress.new.self.disk (StandsForSome z k)) c.offer_next.ensures.sizes
    (leaves_so disk.view s.committer.disk c.advance-progress.new.self.disk
    (MayLeave s.committer) (StandsForSome s.committer.sizes k)
    (stands_for_some laws.committed laws.counted laws.rows k s.front s.committer
    s.queue.groups.items s.sealed s.has_failed (c.offer_next.ensures.machine k i))
    c.advance-progress.ensures.any_moment))

pub returns-clause-call : goal.returns-clause-call
returns-clause-call g c =
    subst (λ d. CallsDevice g.D.Disk.called d c.advance-progress.result
    c.advance-progress.new.self.disk) c.offer_next.ensures.disk c.advance-progress.ensures.call

pub returns-clause-steps : goal.returns-clause-steps
returns-clause-steps g c = record {
  begun = c.offer_next.new.self.committer;
  takes = c.offer_next.ensures.takes;
  moved = c.advance-progress.ensures.moved;
}

pub returns-clause-past : goal.returns-clause-past
returns-clause-past g c =
    let s = c.offer_next.new.self in
    λ k p i h.
    let grown = past_advanced p s.front s.committer c.advance-progress.new.self s.queue.groups.items
    (c.offer_next.ensures.past k p i h) c.advance-progress.result
    c.advance-progress.ensures.moved in
    record {
      stored = grown.stored;
      oldest = sym (c.offer_next.ensures.unstored k i) ∙ grown.oldest;
      past = grown.past;
    }
