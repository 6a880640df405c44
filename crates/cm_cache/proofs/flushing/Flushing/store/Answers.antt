use Rattle.std.proofs.Common.{◌≡◌, ◌++◌, sym, ap, subst}
use Rattle.cm_commit.specs.States.{CommitterState}
use Rattle.cm_guards.specs.Calls.{LeavesOnly}
use Rattle.cm_guards.proofs.{leaves_none}
use Rattle.cm_cache.specs.Closing.{ShowsPosted}
use Rattle.cm_cache.specs.Flushing.{HasCommitted, FlushingState}
use Rattle.cm_cache.proofs.Flushed.{stored, has_stored}
use Rattle.cm_cache.proofs.Moments.{moments_posted}
use Rattle.cm_cache.proofs.flushing.Flushing.store.Goals as goal

pub invariant_of-result-in-Some-store_next : goal.invariant_of-result-in-Some-store_next
invariant_of-result-in-Some-store_next g c =
    stored _ _ _ _ _ _ _ _ c.self.invariant c.in-Some.is
    c.in-Some-store_next.ensures.stored c.store_next.ensures.later
    (subst
    (λ (s : CommitterState g.row.D.Denot). c.post.new.self ≡ record {
      receipt = record { number = s.number };
      broken = c.self.inside.poster.broken;
    })
    c.committer.ensures c.post.ensures.says)

pub post-requires-clause-has : goal.post-requires-clause-has
post-requires-clause-has g c = (
  c.self.invariant.done ++ c.in-Some.group.entries,
  subst (HasCommitted g.K.Naming.base (c.self.invariant.done ++ c.in-Some.group.entries))
      (sym c.committer.ensures)
      (has_stored _ _ _ _ _ _ _ c.self.invariant c.in-Some-store_next.ensures.stored),
)

pub returns-in_default-clause-any_moment : goal.returns-in_default-clause-any_moment
returns-in_default-clause-any_moment g c =
    let view = g.D.Disk.view in
    let f = c.args.self in
    subst
    (λ d. LeavesOnly view f.committer.disk d (ShowsPosted g.K.Naming.base f.received f.posted))
    (sym (ap (λ (h : FlushingState g.row.D.Denot). h.committer.disk) c.self.view_is))
    (leaves_none view g.met.D.Disk.only_now f.committer.disk
    (ShowsPosted g.K.Naming.base f.received f.posted) c.images.ensures)

pub returns-in-Some-store_next-clause-any_moment
    : goal.returns-in-Some-store_next-clause-any_moment
returns-in-Some-store_next-clause-any_moment g c =
    let view = g.D.Disk.view in
    let new = c.store_next.new.self.disk in
    subst
    (λ (f : FlushingState g.row.D.Denot). LeavesOnly view f.committer.disk new
    (ShowsPosted g.K.Naming.base f.received f.posted))
    c.self.view_is
    (moments_posted _ _ _ _ c.self.invariant view new c.in-Some.group c.in-Some.is
    c.store_next.ensures.any_moment)

pub returns-in-None-clause-any_moment : goal.returns-in-None-clause-any_moment
returns-in-None-clause-any_moment g c =
    let view = g.D.Disk.view in
    let new = c.store_next.new.self.disk in
    subst
    (λ (f : FlushingState g.row.D.Denot). LeavesOnly view f.committer.disk new
    (ShowsPosted g.K.Naming.base f.received f.posted))
    c.self.view_is
    (moments_posted _ _ _ _ c.self.invariant view new c.in-Some.group c.in-Some.is
    c.store_next.ensures.any_moment)
