use Rattle.std.proofs.Common.{ℕ, ◌∷◌, ap, subst, sym, ◌∙◌, arith}
use Rattle.cm_guards.specs.Stages.{calls_left}
use Rattle.cm_commit.specs.States.{Storing, CommitterState, with_taken}
use Rattle.cm_session.specs.Session.{commands_of, AreConsecutive, IsSession}
use Rattle.cm_session.proofs.Handing.{on_ok}
use Rattle.cm_session.proofs.Stepping.{takes, is_taken, no_calls, none_busy, not_none, may_take}
use Rattle.cm_session.proofs.Past.{past_taken, unstored_taken}
use Rattle.cm_session.proofs.session.Session.offer_next.Goals as goal

pub returns-clause-machine : goal.returns-clause-machine
returns-clause-machine g c =
    let s = c.args.self.now in
    let group = c.join_queued-group.result in
    let rest = c.join_queued-group.new.queue.items in
    let items = c.in-Some.ensures.items in
    let law = c.handed_groups_are_next.ensures.next in
    let zero = c.if-steps_left-gt0.false in
    λ k i.
    let sound = sym i.told.failed_told ∙ c.if-self.false in
    let none = none_busy s.committer.underway s.committer.left i.between.busy
    (no_calls s.committer.broken (calls_left s.committer.left) c.steps_left.result
    c.steps_left.ensures sound (omega (arith, zero))) in
    let same = c.join_queued-group.ensures.commands ∙ sym (ap commands_of items) in
    let joined : (n : ℕ) → AreConsecutive n s.queue.groups.items → AreConsecutive n (group ∷ rest) =
    (λ n b. c.join_queued-group.ensures.behind n (subst (AreConsecutive n) items b)) in
    let may = is_taken law k s.front s.committer s.queue.groups.items rest s.sealed s.has_failed
    group i none same joined sound in
    let taken = on_ok c.offer-taken.result (c.offer-taken.ensures.takes.1 may)
    c.offer-taken.ensures.taken in
    let steps = on_ok c.offer-taken.result (c.offer-taken.ensures.takes.1 may)
    c.offer-taken.ensures.steps in
    let calls = ap (λ (z : CommitterState _). calls_left z.left) taken in
    subst (λ (z : CommitterState _). IsSession k s.front z rest s.sealed s.has_failed) (sym taken)
    (takes law k s.front s.committer s.queue.groups.items rest s.sealed s.has_failed group i none
    same joined (with_taken g.D.Disk.view s.committer group).left (omega (arith, steps, calls)))

pub returns-clause-taken : goal.returns-clause-taken
returns-clause-taken g c =
    let s = c.args.self.now in
    let group = c.join_queued-group.result in
    let rest = c.join_queued-group.new.queue.items in
    let items = c.in-Some.ensures.items in
    let law = c.handed_groups_are_next.ensures.next in
    let zero = c.if-steps_left-gt0.false in
    λ k i failed none_now.
    let sound = sym i.told.failed_told ∙ c.if-self.false in
    let none = none_busy s.committer.underway s.committer.left i.between.busy
    (no_calls s.committer.broken (calls_left s.committer.left) c.steps_left.result
    c.steps_left.ensures sound (omega (arith, zero))) in
    let same = c.join_queued-group.ensures.commands ∙ sym (ap commands_of items) in
    let joined : (n : ℕ) → AreConsecutive n s.queue.groups.items → AreConsecutive n (group ∷ rest) =
    (λ n b. c.join_queued-group.ensures.behind n (subst (AreConsecutive n) items b)) in
    let may = is_taken law k s.front s.committer s.queue.groups.items rest s.sealed s.has_failed
    group i none same joined sound in
    let taken = on_ok c.offer-taken.result (c.offer-taken.ensures.takes.1 may)
    c.offer-taken.ensures.taken in
    absurd (not_none (Storing group) c.offer-taken.new.self.underway
    (ap (λ (z : CommitterState _). z.underway) taken) none_now)

pub returns-clause-takes : goal.returns-clause-takes
returns-clause-takes g c =
    let zero = c.if-steps_left-gt0.false in
    may_take g.D.Disk.view c.join_queued-group.new.queue.items c.args.self.now.committer
    c.offer-taken.new.self c.join_queued-group.result c.steps_left.result c.steps_left.ensures
    (omega (arith, zero)) c.join_queued-group.ensures.all c.offer-taken.result
    c.offer-taken.ensures.takes c.offer-taken.ensures.taken
    c.offer-taken.ensures.same

pub returns-clause-unstored : goal.returns-clause-unstored
returns-clause-unstored g c =
    let s = c.args.self.now in
    let group = c.join_queued-group.result in
    let rest = c.join_queued-group.new.queue.items in
    let items = c.in-Some.ensures.items in
    let law = c.handed_groups_are_next.ensures.next in
    let zero = c.if-steps_left-gt0.false in
    λ k i.
    let sound = sym i.told.failed_told ∙ c.if-self.false in
    let none = none_busy s.committer.underway s.committer.left i.between.busy
    (no_calls s.committer.broken (calls_left s.committer.left) c.steps_left.result
    c.steps_left.ensures sound (omega (arith, zero))) in
    let same = c.join_queued-group.ensures.commands ∙ sym (ap commands_of items) in
    let joined : (n : ℕ) → AreConsecutive n s.queue.groups.items → AreConsecutive n (group ∷ rest) =
    (λ n b. c.join_queued-group.ensures.behind n (subst (AreConsecutive n) items b)) in
    let may = is_taken law k s.front s.committer s.queue.groups.items rest s.sealed s.has_failed
    group i none same joined sound in
    let taken = on_ok c.offer-taken.result (c.offer-taken.ensures.takes.1 may)
    c.offer-taken.ensures.taken in
    unstored_taken g.D.Disk.view s.committer c.offer-taken.new.self s.queue.groups.items rest group
    none same taken

pub returns-clause-past : goal.returns-clause-past
returns-clause-past g c =
    let s = c.args.self.now in
    let group = c.join_queued-group.result in
    let rest = c.join_queued-group.new.queue.items in
    let items = c.in-Some.ensures.items in
    let law = c.handed_groups_are_next.ensures.next in
    let zero = c.if-steps_left-gt0.false in
    λ k p i h.
    let sound = sym i.told.failed_told ∙ c.if-self.false in
    let none = none_busy s.committer.underway s.committer.left i.between.busy
    (no_calls s.committer.broken (calls_left s.committer.left) c.steps_left.result
    c.steps_left.ensures sound (omega (arith, zero))) in
    let same = c.join_queued-group.ensures.commands ∙ sym (ap commands_of items) in
    let joined : (n : ℕ) → AreConsecutive n s.queue.groups.items → AreConsecutive n (group ∷ rest) =
    (λ n b. c.join_queued-group.ensures.behind n (subst (AreConsecutive n) items b)) in
    let may = is_taken law k s.front s.committer s.queue.groups.items rest s.sealed s.has_failed
    group i none same joined sound in
    let taken = on_ok c.offer-taken.result (c.offer-taken.ensures.takes.1 may)
    c.offer-taken.ensures.taken in
    past_taken g.D.Disk.view s.committer c.offer-taken.new.self s.queue.groups.items rest group none
    same taken p s.front h
