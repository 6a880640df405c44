-- Passes that came back, one after another.
-- For `Tally::take_all`, `Cache::close`.
use Rattle.std.proofs.Common.{◌≡◌, ℕ, ◌+◌, ◌≤◌, true, List, [], ◌∷◌, ◌++◌, length, map, refl, ap}
use Rattle.std.proofs.Common.{sym, subst, ◌∙◌, append_assoc, arith, Bool, false, true≢false}
use Rattle.std.specs.List.{All}
use Rattle.std.proofs.lemmas.List.{append-nil, length-append}
use Rattle.std.proofs.lemmas.List.Elements.{All-nil, All-push}
use Rattle.std.proofs.lemmas.List.Sums.{sum_by_push}
use Rattle.cm_cache.specs.declared.board_view.Seen.{Seen}
use Rattle.cm_cache.specs.declared.channel.Base.{Base}
use Rattle.cm_cache.specs.Channel.{OutgoingState, entries_of, AreApart}
use Rattle.cm_cache.specs.Handing.{AreHanded}
use Rattle.cm_cache.specs.Shared.{PassState, numbers_of, numbers_of_passes}
use Rattle.cm_cache.specs.Closing.{TallyState, AreTaken}

pub map_same : {A : Type 0} (l : List A) → map (λ (x : A). x) l ≡ l
map_same [] = refl
map_same (x ∷ l) = ap (λ r. x ∷ r) (map_same l)

-- the numbers of one more pass
numbers_push : (passes : List PassState) (p : PassState)
    → numbers_of_passes (passes ++ p ∷ []) ≡ numbers_of_passes passes ++ numbers_of p.changes
numbers_push [] p = append-nil (numbers_of p.changes)
numbers_push (q ∷ passes) p =
    ap (λ l. numbers_of q.changes ++ l) (numbers_push passes p)
    ∙ sym (append_assoc (numbers_of q.changes) (numbers_of_passes passes) (numbers_of p.changes))

pub none_taken : (base : Base) (old : TallyState) (posted : Seen) (settled : OutgoingState)
    → AreTaken base old posted settled [] old posted settled
none_taken base old posted settled = record {
  handed = refl;
  missing = omega arith;
  of_passes = omega arith;
  posted_is = refl;
  seen = All-nil _;
  marked = All-nil _;
  sent_is = refl;
  owned_is = sym (append-nil settled.owned);
  apart = λ apart. apart;
  counted = All-nil _;
  changes = All-nil _;
}

pub one_taken : (base : Base) (old now new : TallyState) (posted then after : Seen)
    (settled settled_then settled_after : OutgoingState) (passes : List PassState) (p : PassState)
    → AreTaken base old posted settled passes now then settled_then → new.handed ≡ now.handed
    → new.missing + 1 ≡ now.missing → new.of_passes ≡ now.of_passes + p.share → after ≡ then
    → p.seen.receipt.number ≤ then.receipt.number
    → (p.marked ≡ true → then.broken ≡ true)
    → settled_after
    ≡ record { sent = settled_then.sent; owned = settled_then.owned ++ numbers_of p.changes }
    → AreApart settled_after.owned → length p.changes ≡ p.share
    → AreHanded base (entries_of settled_then.sent) p.changes
    → AreTaken base old posted settled (passes ++ p ∷ []) new after settled_after
one_taken base old now new posted then after settled settled_then settled_after passes p a handed
    missing share same seen marked heard apart counted changes = record {
      handed = handed ∙ a.handed;
      missing =
          let before = a.missing in
          let count = length-append passes (p ∷ []) in
          omega (arith, missing, before, count);
      of_passes =
          let before = a.of_passes in
          let sum = sum_by_push (λ (q : PassState). q.share) passes p in
          omega (arith, share, before, sum);
      posted_is = same ∙ a.posted_is;
      seen = All-push (λ (q : PassState). q.seen.receipt.number ≤ posted.receipt.number) passes p
          a.seen (subst (λ (s : Seen). p.seen.receipt.number ≤ s.receipt.number) a.posted_is seen);
      marked = All-push (λ (q : PassState). q.marked ≡ true → posted.broken ≡ true) passes p
          a.marked (λ m. sym (ap (λ (s : Seen). s.broken) a.posted_is) ∙ marked m);
      sent_is = ap (λ (o : OutgoingState). o.sent) heard ∙ a.sent_is;
      owned_is =
          ap (λ (o : OutgoingState). o.owned) heard
          ∙ ap (λ l. l ++ numbers_of p.changes) a.owned_is
          ∙ append_assoc settled.owned (numbers_of_passes passes) (numbers_of p.changes)
          ∙ ap (λ l. settled.owned ++ l) (sym (numbers_push passes p));
      apart = λ _. apart;
      counted =
          All-push (λ (q : PassState). length q.changes ≡ q.share) passes p a.counted counted;
      changes = All-push (λ (q : PassState). AreHanded base (entries_of settled.sent) q.changes)
          passes p a.changes
          (subst (λ l. AreHanded base (entries_of l) p.changes) a.sent_is changes);
    }

pub all_taken : (base : Base) (old new : TallyState) (posted now : Seen)
    (settled after : OutgoingState) (taken passes : List PassState)
    → AreTaken base old posted settled taken new now after
    → map (λ (p : PassState). p) taken ≡ passes
    → AreTaken base old posted settled passes new now after
all_taken base old new posted now settled after taken passes a all =
    subst (λ l. AreTaken base old posted settled l new now after) (sym (map_same taken) ∙ all) a

-- ---- once all came back

pub within : (passes : List PassState) (posted least : ℕ) → posted ≡ least
    → All (λ (p : PassState). p.seen.receipt.number ≤ posted) passes
    → All (λ (p : PassState). p.seen.receipt.number ≤ least) passes
within passes posted least same seen =
    subst (λ n. All (λ (p : PassState). p.seen.receipt.number ≤ n) passes) same seen

unmarked : (marked broken : Bool) → (marked ≡ true → broken ≡ true) → broken ≡ false
    → marked ≡ false
unmarked true broken cause whole = absurd (true≢false (sym (cause refl) ∙ whole))
unmarked false broken cause whole = refl

pub none_marked : (passes : List PassState) (broken : Bool)
    → All (λ (p : PassState). p.marked ≡ true → broken ≡ true) passes → broken ≡ false
    → All (λ (p : PassState). p.marked ≡ false) passes
none_marked passes broken marked whole k d below =
    unmarked _ broken (marked k d below) whole
