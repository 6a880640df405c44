use Rattle.std.proofs.Common.{◌≡◌, ◌+◌, [], ◌∷◌, ◌++◌, length, length-append, sym, ap}
use Rattle.std.proofs.Common.{subst, ◌∙◌}
use Rattle.std.proofs.Common.{arith}
use Rattle.cm_commands.specs.Commands.{change_asked}
use Rattle.cm_front.specs.Front.{FrontState}
use Rattle.cm_front.specs.Accepting.{IsReason}
use Rattle.cm_cache.specs.Channel.{entries_of, owned_by, shown_by}
use Rattle.cm_cache.specs.Handing.{AreHanded, HandingState, MayAccept}
use Rattle.cm_cache.specs.Holds.{hold_of, NothingStood, StoodAgainst}
use Rattle.cm_cache.specs.Shared.{numbers_of}
use Rattle.cm_cache.proofs.Shown.{all_shown, one_more_shown, numbers_of_more}
use Rattle.cm_cache.proofs.Tied.{one_more_sent}
use Rattle.cm_cache.proofs.shared.Shared.hold.Goals as goal

pub invariant_of-self-2 : goal.invariant_of-self-2
invariant_of-self-2 g c =
    let kept = c.self.invariant in
    let added = c.add.ensures.total in
    let same = c.audit.ensures.total in
    let sent = ap (λ (h : HandingState). length (entries_of h.sent)) c.notice.ensures in
    let more = one_more_sent _ _ _ _ _ c.in-Ok.ensures.ok in
    (omega (arith, kept.0, added, same, sent, more), kept.1, kept.2)

pub invariant_of-pass : goal.invariant_of-pass
invariant_of-pass g c =
    let kept = c.pass.invariant in
    let same = c.audit.ensures in (
      omega (arith, kept.0, same.parts),
      omega (arith, kept.1, same.amount),
      kept.2,
      kept.3,
      kept.4,
      ap owned_by c.in-Err.ensures.kept ∙ kept.5,
      subst
          (λ w. AreHanded g.K.Naming.base (entries_of (shown_by w)) c.pass.inside.changes.all)
          (sym c.in-Err.ensures.kept)
          (all_shown _ (shown_by c.pass.inside.witness) c.hand_over.new.self.sent _ kept.6
          c.hand_over.ensures.known),
    )

pub invariant_of-pass-2 : goal.invariant_of-pass-2
invariant_of-pass-2 g c =
    let kept = c.pass.invariant in
    let added = c.add.ensures in
    let same = c.audit.ensures in (
      omega (arith, kept.0, added.parts, same.parts),
      omega (arith, kept.1, added.amount, same.amount),
      kept.2,
      kept.3,
      (let more = ap length c.one_more-changes.ensures in
          let count = length-append c.pass.inside.changes.all
          ((change_asked c.args.command, c.number.result + 1) ∷ []) in
          omega (arith, kept.4, more, count)),
      ap owned_by c.in-Ok.ensures.shown
          ∙ ap (λ l. l ++ c.in-Ok.number ∷ []) kept.5
          ∙ sym (ap numbers_of changes_are ∙ numbers_of_more _ _ _),
      subst
          (λ w. AreHanded g.K.Naming.base (entries_of (shown_by w)) c.one_more-changes.result.all)
          (sym c.in-Ok.ensures.shown)
          (one_more_shown _ (shown_by c.pass.inside.witness) c.notice.new.self.sent _ _ _ _ _
          kept.6 c.hand_over.ensures.known c.in-Ok.ensures.ok changes_are),
    )
  where
    changes_are : c.one_more-changes.result.all
        ≡ c.pass.inside.changes.all ++ (change_asked c.args.command, c.in-Ok.number) ∷ []
    changes_are =
        subst
        (λ n. c.one_more-changes.result.all
        ≡ c.pass.inside.changes.all ++ (change_asked c.args.command, n) ∷ [])
        (let is = c.in-Ok.ensures.ok.number_is in
        let number = c.number.ensures in
        let at = c.front.ensures.number in
        let value = ap (λ (f : FrontState). f.number) c.front.ensures.value in
        omega (arith, is, number, at, value))
        c.one_more-changes.ensures

pub returns-in-Err-clause-stood : goal.returns-in-Err-clause-stood
returns-in-Err-clause-stood g c =
    let change = change_asked c.args.command in
    subst (λ (f : FrontState). StoodAgainst (hold_of c.args.seen f) change c.in-Err.refusal)
    (ap (λ (s : HandingState). s.front) c.self.view_is)
    (subst (λ (h : HandingState). IsReason h.front change c.in-Err.refusal) c.notice.ensures
    c.in-Err.ensures.reason)

pub returns-clause-fits : goal.returns-clause-fits
returns-clause-fits g c =
    let change = change_asked c.args.command in
    subst (λ (f : FrontState). NothingStood (hold_of c.args.seen f) change c.in-Ok.number)
    (ap (λ (s : HandingState). s.front) c.self.view_is)
    (subst (λ (h : HandingState). MayAccept h.front change c.in-Ok.number) c.notice.ensures
    c.in-Ok.ensures.fits)
