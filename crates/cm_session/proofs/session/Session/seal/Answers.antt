use Rattle.std.proofs.Common.{List, ◌∷◌, [], ◌++◌, ◌+◌, ◌-◌, ap, refl, subst, sym, ◌∙◌}
use Rattle.cm_group.specs.Groups.{Handed}
use Rattle.cm_front.specs.Front.{FrontState}
use Rattle.cm_session.proofs.Handing.{hands_as, none_waits, some_wait, none_left, none_queued}
use Rattle.cm_session.proofs.Handing.{not_full, on_err}
use Rattle.cm_session.specs.Session.{IsSession}
use Rattle.cm_session.proofs.Past.{PastOf, past_queued}
use Rattle.cm_session.proofs.session.Session.seal.Goals as goal

pub returns-then-number-self-clause-machine : goal.returns-then-number-self-clause-machine
returns-then-number-self-clause-machine g c =
    let s = c.args.self.now in
    λ k i. record {
      next = k;
      does = (
        none_waits c.committed_rows_are_the_machines.ensures.counted k s.front s.committer
            s.queue.groups.items s.sealed s.has_failed i
            (sym c.number.ensures ∙ c.if-number-self.true),
        refl,
      );
      matches = subst (λ (q : List Handed). IsSession k s.front s.committer q s.sealed s.has_failed)
          (sym c.reserve.ensures.items) i;
    }

pub returns-else-number-self-clause-machine : goal.returns-else-number-self-clause-machine
returns-else-number-self-clause-machine g c =
    let s = c.args.self.now in
    λ k i. record {
      next = k;
      does = (
        some_wait c.committed_rows_are_the_machines.ensures.counted k s.front s.committer
            s.queue.groups.items s.sealed s.has_failed i
            (λ e. c.if-number-self.false (c.number.ensures ∙ e)),
        refl,
      );
      matches = subst (λ (q : List Handed). IsSession k s.front s.committer q s.sealed s.has_failed)
          (sym c.reserve.ensures.items) i;
    }

pub returns-clause-machine : goal.returns-clause-machine
returns-clause-machine g c =
    let s = c.args.self.now in
    let group = c.in-Some.group in
    λ k i. hands_as c.committed_rows_are_the_machines.ensures.counted
    c.ahead_stays_ahead.ensures.handed k s.front c.seal.new.self s.committer
    s.queue.groups.items s.sealed s.has_failed group c.first-first.ensures.lawful c.in-Some.ensures
    c.invariant_holds.ensures i c.first-first.result
    (c.first-first.result + (c.count.result - 1)) c.push_back_reserved.new.self.items
    c.first-first.ensures.value
    (λ j. c.first-first.ensures.value j + (c.count.ensures j - 1))
    (c.push_back_reserved.ensures.items
    ∙ ap (λ (q : List Handed). q ++ group ∷ []) c.reserve.ensures.items)

pub returns-else-number-self-clause-place : goal.returns-else-number-self-clause-place
returns-else-number-self-clause-place g c =
    let s = c.args.self.now in
    λ k i stored.
    let full = on_err c.reserve.result c.if-is_err.ensures.value c.reserve.ensures.full in
    absurd (not_full _ _ s.queue.groups.items s.queue.groups.ok.0 s.queue.has_place full
    (none_queued c.committed_rows_are_the_machines.ensures.counted k s.front s.committer
    s.queue.groups.items s.sealed s.has_failed i stored))

pub returns-in_default-clause-machine : goal.returns-in_default-clause-machine
returns-in_default-clause-machine g c =
    let s = c.args.self.now in
    let none = c.in_default.ensures in
    λ k i. record {
      next = k;
      does = (
        none_left c.committed_rows_are_the_machines.ensures.counted k s.front s.committer
            s.queue.groups.items s.sealed s.has_failed i none.0,
        refl,
      );
      matches = subst (λ (f : FrontState). IsSession k f s.committer c.reserve.new.self.items
          s.sealed
          s.has_failed) (sym none.1)
          (subst (λ (q : List Handed). IsSession k s.front s.committer q s.sealed s.has_failed)
          (sym c.reserve.ensures.items) i);
    }

pub returns-clause-queued : goal.returns-clause-queued
returns-clause-queued g c = (
  c.in-Some.group,
  c.in-Some.ensures,
  c.push_back_reserved.ensures.items
      ∙ ap (λ (q : List Handed). q ++ c.in-Some.group ∷ []) c.reserve.ensures.items,
)

pub returns-then-number-self-clause-past : goal.returns-then-number-self-clause-past
returns-then-number-self-clause-past g c =
    let s = c.args.self.now in
    λ k p i h. subst (λ (q : List Handed). PastOf p s.front s.committer q)
    (sym c.reserve.ensures.items) h

pub returns-else-number-self-clause-past : goal.returns-else-number-self-clause-past
returns-else-number-self-clause-past g c =
    let s = c.args.self.now in
    λ k p i h. subst (λ (q : List Handed). PastOf p s.front s.committer q)
    (sym c.reserve.ensures.items) h

pub returns-in_default-clause-past : goal.returns-in_default-clause-past
returns-in_default-clause-past g c =
    let s = c.args.self.now in
    λ k p i h.
    subst (λ (f : FrontState). PastOf p f s.committer c.reserve.new.self.items)
    (sym c.in_default.ensures.1)
    (subst (λ (q : List Handed). PastOf p s.front s.committer q) (sym c.reserve.ensures.items) h)

pub returns-clause-past : goal.returns-clause-past
returns-clause-past g c =
    let s = c.args.self.now in
    let group = c.in-Some.group in
    λ k p i h. past_queued p s.front c.seal.new.self s.committer s.queue.groups.items
    c.push_back_reserved.new.self.items group h c.ahead_stays_ahead.ensures.handed i.cache.is
    c.in-Some.ensures
    (c.push_back_reserved.ensures.items
    ∙ ap (λ (q : List Handed). q ++ group ∷ []) c.reserve.ensures.items)
