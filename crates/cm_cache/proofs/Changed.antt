-- What a changing call returns, from what its look, its hold of the lock and its wait did to the
-- pass.
-- For `Cache::change`.
use Rattle.std.proofs.Common.{◌≡◌, ℕ, ◌≤◌, Bool, true, false, List, [], ◌∷◌, ◌++◌, Some, None}
use Rattle.std.proofs.Common.{Ok, Err, append_assoc}
use Rattle.std.proofs.Common.{refl, sym, ap, ◌∙◌, subst, arith, Result, inl, inr}
use Rattle.std.specs.Prelude.{if◌then◌else◌, Option}
use Rattle.std.proofs.lemmas.List.{append-nil}
use Rattle.cm_commands.specs.declared.refusal.Refusal.{Refusal}
use Rattle.cm_commands.specs.declared.refusal.Refusal.TheVariants as refusal
use Rattle.cm_commands.specs.Refusals.{refusal_number, refusal_of}
use Rattle.cm_state.specs.State.{state_of, words_show}
use Rattle.cm_state.specs.Step.{Change, Cause, step}
use Rattle.cm_state.specs.Step.{BadName, NumbersSpent, LoaderExists, NoLoader, ClassExists}
use Rattle.cm_state.specs.Step.{RecordTooLong, JournalFull, BadList}
use Rattle.cm_state.specs.Step.{AddLoader, Define, Unload, Tighten, UnloadAll}
use Rattle.cm_front.specs.Front.{FrontState, first_refusal}
use Rattle.cm_front.specs.Accepting.{IsReason, refusal_of_chunk}
use Rattle.cm_cache.specs.declared.board_view.Load.{Load}
use Rattle.cm_cache.specs.declared.board_view.Load.TheVariants.{Number, Broken}
use Rattle.cm_cache.specs.declared.board_view.Seen.{Seen}
use Rattle.cm_cache.specs.Board.{HasLoadedSince, HasLookedSince, loads_after}
use Rattle.cm_cache.specs.Handing.{with_seen}
use Rattle.cm_cache.specs.Holds.{hold_of, NothingStood, StoodAgainst}
use Rattle.cm_cache.specs.Shared.{PassState, looked, held, counted, with_news, ReportsChange}

-- ---- what stands against a change is never `Unsure`

-- the number of the refusal, if there is one
abbrev number_in : Option Refusal → ℕ
number_in None = 0
number_in (Some r) = refusal_number r

of_cause : (cause : Cause) → refusal_number (refusal_of cause) ≡ 13 → ⊥
of_cause BadName e = omega (arith, e)
of_cause NumbersSpent e = omega (arith, e)
of_cause LoaderExists e = omega (arith, e)
of_cause NoLoader e = omega (arith, e)
of_cause ClassExists e = omega (arith, e)
of_cause RecordTooLong e = omega (arith, e)
of_cause JournalFull e = omega (arith, e)
of_cause BadList e = omega (arith, e)

of_first : {A : Type 0} (closed broken : Bool) (stepped : Result A Cause)
    → number_in (if closed then Some refusal.Closed else if broken then Some refusal.Broken
    else elim stepped [
      | Err cause ↦ Some (refusal_of cause)
      | Ok next ↦ None
    ]) ≡ 13 → ⊥
of_first true broken stepped e = omega (arith, e)
of_first false true stepped e = omega (arith, e)
of_first false false (Err cause) e = of_cause cause e
of_first false false (Ok next) e = omega (arith, e)

of_chunk : (change : Change (List ℕ)) → refusal_number (refusal_of_chunk change) ≡ 13 → ⊥
of_chunk (AddLoader x) e = omega (arith, e)
of_chunk (Define x words) e = omega (arith, e)
of_chunk (Unload x) e = omega (arith, e)
of_chunk (Tighten x) e = omega (arith, e)
of_chunk (UnloadAll xs) e = omega (arith, e)

first_of : (s : FrontState) (change : Change (List ℕ)) → number_in (first_refusal s change) ≡ 13 → ⊥
first_of s change =
    of_first s.closed s.broken
    (step words_show s.sizes (state_of words_show s.rows) s.number change)

never_unsure : (s : FrontState) (change : Change (List ℕ)) (r : Refusal) → IsReason s change r
    → refusal_number r ≡ 13 → ⊥
never_unsure s change r (inl is) e = first_of s change (ap number_in is ∙ e)
never_unsure s change r (inr (_, inl (is, _))) e =
    of_chunk change (sym (ap refusal_number is) ∙ e)
never_unsure s change r (inr (_, inr (is, _))) e =
    let memory : 9 ≡ 13 = sym (ap refusal_number is) ∙ e in omega (arith, memory)

-- ---- refused

pub refused_so : (old seeing new : PassState) (change : Change (List ℕ)) (r : Refusal)
    (seen : Seen) (front : FrontState) → seeing ≡ looked old seen
    → old.seen.receipt.number ≤ seen.receipt.number → new ≡ held seeing seen front
    → StoodAgainst (hold_of seen front) change r → ReportsChange old change (Err r) new
refused_so old seeing new change r seen front look later hold why =
    subst (ReportsChange old change (Err r)) (sym (hold ∙ ap (λ p. held p seen front) look))
    (record {
      stored = tt;
      unsure = λ n same.
          absurd (never_unsure (with_seen front seen) change r why (ap refusal_number same));
      refused = λ _. refl;
      later = later;
      hold = hold_of seen front;
      once = refl;
      just_seen = ([], sym (append-nil _));
      accepted = tt;
      still_accepted = λ n same.
          absurd (never_unsure (with_seen front seen) change r why (ap refusal_number same));
      reason = λ _. why;
    })

-- ---- accepted

looked_then : (old new : List Load) (seen : Seen) → HasLookedSince old seen new
    → HasLoadedSince old new
looked_then old new seen looked = (
  (looked.0 ++ Broken seen.broken ∷ []) ++ Number seen.receipt.number ∷ [],
  looked.1
      ∙ ap (λ l. l ++ Number seen.receipt.number ∷ [])
      (append_assoc old looked.0 (Broken seen.broken ∷ []))
      ∙ append_assoc old (looked.0 ++ Broken seen.broken ∷ []) (Number seen.receipt.number ∷ []),
)

module _ (old seeing kept new : PassState) (change : Change (List ℕ)) (n : ℕ) (seen : Seen)
    (front : FrontState) (look : seeing ≡ looked old seen)
    (later : old.seen.receipt.number ≤ seen.receipt.number)
    (counts : kept ≡ counted (held seeing seen front) change n)
    (fits : NothingStood (hold_of seen front) change n)
    (stays : (new.share ≡ kept.share) × (new.changes ≡ kept.changes))
    (holds : new.holds ≡ kept.holds) (looks : HasLookedSince kept.loads new.seen new.loads)
    (rises : kept.seen.receipt.number ≤ new.seen.receipt.number) where
  kept_is : kept ≡ counted (held (looked old seen) seen front) change n
  kept_is = counts ∙ ap (λ (p : PassState). counted (held p seen front) change n) look

  with_mark : (m : Bool) → new.marked ≡ m
      → new ≡ record (with_news (counted old change n) new) { marked = m }
  with_mark m is = λ i. record {
    share = (stays.0 ∙ ap (λ (p : PassState). p.share) kept_is) i;
    seen = new.seen;
    marked = is i;
    changes = (stays.1 ∙ ap (λ (p : PassState). p.changes) kept_is) i;
    loads = new.loads;
    holds = new.holds;
  }

  later_still : old.seen.receipt.number ≤ new.seen.receipt.number
  later_still =
      let same = ap (λ (p : PassState). p.seen.receipt.number) kept_is in
      omega (arith, later, rises, same)

  once : new.holds ≡ old.holds ++ hold_of seen front ∷ []
  once = holds ∙ ap (λ (p : PassState). p.holds) kept_is

  just_seen : HasLoadedSince (loads_after old.loads seen) new.loads
  just_seen =
      looked_then (loads_after old.loads seen) new.loads new.seen
      (subst (λ l. HasLookedSince l new.seen new.loads) (ap (λ (p : PassState). p.loads) kept_is)
      looks)

  pub accepted_so : n ≤ new.seen.receipt.number → new.marked ≡ kept.marked
      → ReportsChange old change (Ok n) new
  accepted_so reached same = record {
    stored = (reached, with_mark old.marked (same ∙ ap (λ (p : PassState). p.marked) kept_is));
    unsure = tt;
    refused = tt;
    later = later_still;
    hold = hold_of seen front;
    once = once;
    just_seen = just_seen;
    accepted = fits;
    still_accepted = tt;
    reason = tt;
  }

  same_number : (r : Refusal) (m : ℕ) → r ≡ refusal.Unsure n → r ≡ refusal.Unsure m → n ≡ m
  same_number r m is same = cc

  pub unsure_so : (r : Refusal) → (r ≡ refusal.Unsure n) × (new.marked ≡ true)
      → ReportsChange old change (Err r) new
  unsure_so r is = record {
    stored = tt;
    unsure = λ m same.
        subst (λ k. new ≡ record (with_news (counted old change k) new) { marked = true })
        (same_number r m is.0 same) (with_mark true is.1);
    refused = λ other. absurd (other (ap refusal_number is.0));
    later = later_still;
    hold = hold_of seen front;
    once = once;
    just_seen = just_seen;
    accepted = tt;
    still_accepted = λ m same.
        subst (NothingStood (hold_of seen front) change) (same_number r m is.0 same) fits;
    reason = λ other. absurd (other (ap refusal_number is.0));
  }
