use Rattle.std.proofs.Common.{◌≡◌, ◌-◌, [], List, ◌++◌, sym, ap, subst, ◌∙◌, arith}
use Rattle.cm_guards.specs.Guards.{EachImage}
use Rattle.std.specs.List.{All}
use Rattle.cm_group.specs.Groups.{Carried}
use Rattle.cm_cache.specs.declared.channel.Base.{Base}
use Rattle.cm_cache.specs.Channel.{OutgoingState, entries_of, AreApart}
use Rattle.cm_cache.specs.Handing.{AreHanded}
use Rattle.cm_cache.specs.Shared.{PassState, numbers_of_passes}
use Rattle.cm_cache.specs.Closing.{ShowsBeginning}
use Rattle.cm_cache.proofs.Apart.{none_apart, all_are_theirs}
use Rattle.cm_cache.proofs.Counted.{within, none_marked}
use Rattle.cm_cache.proofs.cache.Cache.close.Goals as goal

pub returns-clause-receipts : goal.returns-clause-receipts
returns-clause-receipts g c =
    let says = c.leave-number.ensures.says in
    let least = c.leave-number.ensures.least in
    let opened = c.args.self.opened_is in
    within _ _ _ (omega (arith, says, least, opened)) c.take_all.ensures.seen

pub returns-clause-whole : goal.returns-clause-whole
returns-clause-whole g c = λ same.
    let all = c.leave-number.ensures.whole same in
    let sent = c.finish-outgoing.ensures.handed in
    let taken = c.take_all.ensures.handed in
    let handed = c.count-handed.ensures.handed in
    let opened = c.args.self.opened_is in
    let number = all.0 in (
      omega (arith, sent, taken, handed, opened, number),
      none_marked _ _ c.take_all.ensures.marked all.1,
    )

pub returns-clause-images : goal.returns-clause-images
returns-clause-images g c =
    let view = g.D.Disk.view in
    let left = c.leave-number in
    record {
      all = entries_of c.finish-outgoing.result.0.sent;
      count =
          let sent = c.finish-outgoing.ensures.handed in
          let taken = c.take_all.ensures.handed in
          let handed = c.count-handed.ensures.handed in
          omega (arith, sent, taken, handed);
      follow = left.ensures.follow;
      images = subst
          (λ n. EachImage (view.contents left.result.3) (view.unsynced left.result.3)
          (ShowsBeginning g.K.Naming.base (entries_of c.finish-outgoing.result.0.sent)
          (left.result.0 - n)))
          (sym c.args.self.opened_is) left.ensures.images;
    }

pub returns-clause-changes : goal.returns-clause-changes
unfolding returns-clause-images
returns-clause-changes g c = record {
  leaves = returns-clause-images g c;
  counted = c.take_all.ensures.counted;
  changes = changes;
  apart = apart;
  whole = λ none.
      all_are_theirs base all c.count-handed.result.0 passes (returns-clause-images g c).count apart
      c.take_all.ensures.counted changes
      (let taken = c.take_all.ensures.of_passes in
      let start = c.finish-outgoing.ensures.none in
      let handed = c.count-handed.ensures.handed in
      let each = c.count-handed.ensures.all (sym c.count-handed.ensures.missing ∙ none) in
      omega (arith, taken, start, handed, each));
}
  where
    base : Base
    base = g.K.Naming.base

    passes : List PassState
    passes = c.args.passes.items

    all : List Carried
    all = entries_of c.finish-outgoing.result.0.sent

    settled : c.leave-number.result.2
        ≡ record { sent = c.finish-outgoing.result.0.sent; owned = [] }
    settled = c.leave-number.ensures.settled

    changes : All (λ (p : PassState). AreHanded base all p.changes) passes
    changes =
        subst
        (λ (o : OutgoingState).
        All (λ (p : PassState). AreHanded base (entries_of o.sent) p.changes) passes)
        settled c.take_all.ensures.changes

    apart : AreApart (numbers_of_passes passes)
    apart =
        subst AreApart
        (c.take_all.ensures.owned_is
        ∙ ap (λ (o : OutgoingState). o.owned ++ numbers_of_passes passes) settled)
        (c.take_all.ensures.apart
        (subst (λ (o : OutgoingState). AreApart o.owned) (sym settled) none_apart))
