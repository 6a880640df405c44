use Rattle.std.proofs.Common.{ℕ, sym, subst, ◌∙◌, ap, arith}
use Rattle.std.specs.Prelude.{◌||◌}
use Rattle.cm_front.specs.Front.{FrontState}
use Rattle.cm_front.specs.Accepting.{with_learnt}
use Rattle.cm_session.specs.declared.session.Session.{Session}
use Rattle.cm_session.specs.Moves.{ReachesMachine, Learns}
use Rattle.cm_session.specs.Session.{IsSession}
use Rattle.cm_session.proofs.Handing.{learns, on_ok}
use Rattle.cm_session.proofs.Learnt.{past_learnt}
use Rattle.cm_session.proofs.Past.{out_of}
use Rattle.cm_session.proofs.session.Session.learn.Goals as goal

pub returns-clause-machine : goal.returns-clause-machine
returns-clause-machine g c =
    let s = c.args.self.now in
    let n = c.notice.new.self in
    let same = c.notice.ensures in
    let laws = c.ahead_stays_ahead.ensures in
    λ k i.
    let then : IsSession k s.front n.committer n.queue.groups.items n.sealed n.has_failed =
    subst (λ (z : Session _). IsSession k s.front z.committer z.queue.groups.items z.sealed
    z.has_failed)
    (sym same) i in
    let sealed = ap (λ (z : Session _). z.front.sealed) same in
    let number = c.number-number.ensures in
    let handed = then.between.ahead.sealed in
    let learnt = on_ok c.learn-known.result
    (c.learn-known.ensures.known.1 (omega (arith, sealed, number, handed)))
    c.learn-known.ensures.ok in
    subst (λ (m : ℕ). ReachesMachine (Learns k m)
    (λ j. IsSession j c.learn-known.new.self n.committer n.queue.groups.items n.sealed
    n.has_failed)) (sym number)
    (learns laws.learnt laws.failed k s.front c.learn-known.new.self n.committer
    n.queue.groups.items n.sealed n.has_failed c.invariant_holds.ensures then
    (s.front.broken || s.has_failed)
    (λ j. i.told.noticed_is j || (i.told.failed_is ∙ sym i.told.failed_told) j)
    (learnt
    ∙ (λ j. with_learnt (ap (λ (z : Session _). z.front) same j) (number j))))

pub returns-clause-told : goal.returns-clause-told
returns-clause-told g c =
    let same = c.notice.ensures in
    let number = c.number-number.ensures in
    λ k i.
    let handed = i.between.ahead.sealed in
    let least = i.between.ahead.learnt in
    let sealed = ap (λ (z : Session _). z.front.sealed) same in
    let before = ap (λ (z : Session _). z.front.learnt) same in
    let here = ap (λ (z : Session _). z.committer.number) same in
    let known = on_ok c.learn-known.result
    (c.learn-known.ensures.known.1 (omega (arith, sealed, number, handed, here)))
    c.learn-known.ensures.ok in
    let then = ap (λ (f : FrontState). f.learnt) known in
    omega (arith, then, before, number, here, least)

pub returns-clause-past : goal.returns-clause-past
returns-clause-past g c =
    let n = c.notice.new.self in
    λ k i. past_learnt n.committer.rows n.committer.number
    (out_of n.committer n.queue.groups.items) c.learn-known.new.self
    (returns-clause-told g c k i) (returns-clause-machine g c k i).matches.between.ahead
