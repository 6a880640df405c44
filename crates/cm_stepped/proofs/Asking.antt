-- Calls that are asked for, and what the caller learns once they are made.
-- For `SteppedSession::ask`, `SteppedSession::ask_next`, `SteppedSession::hand_out`,
-- `SteppedSession::step`, `SteppedSession::take_made`.
use Rattle.std.proofs.Common.{◌≡◌, ℕ, ◌+◌, ◌≤◌, Option, Some, None, Result, Ok, Err, Bool, true}
use Rattle.std.proofs.Common.{false, refl, sym, ap, subst, ◌∙◌, arith, inl, inr}
use Rattle.std.specs.Prelude.{◌||◌, IsOk}
use Rattle.std.specs.declared.alloc.AllocError.{AllocError}
use Rattle.cm_disk.specs.Disk.{View}
use Rattle.cm_guards.specs.Calls.{LeavesOnly}
use Rattle.cm_commit.specs.Advances.{CallsDevice}
use Rattle.cm_commit.specs.declared.progress.Progress.{Progress}
use Rattle.cm_commit.specs.declared.progress.Progress.TheVariants.{Idle, Working, Done, Trimmed}
use Rattle.cm_commit.specs.declared.progress.AdvanceFault.{AdvanceFault}
use Rattle.cm_commit.specs.declared.progress.AdvanceFault.TheVariants as fault
use Rattle.cm_commands.specs.Machine.{Machine, Seals, Acknowledges, accepted_to}
use Rattle.cm_session.specs.declared.session.Sealed.{Sealed}
use Rattle.cm_session.specs.declared.session.Session.{Session}
use Rattle.cm_session.specs.Images.{StandsForSome}
use Rattle.cm_session.specs.Moves.{SessionMatches, Sealing, Advancing, Learns, IsNoCall}
use Rattle.cm_stepped.specs.declared.step.Broken.{Broken}
use Rattle.cm_stepped.specs.declared.step.Step.{Step}
use Rattle.cm_stepped.specs.declared.step.Step.TheVariants.{Idle as IsIdle, Call, Stored}
use Rattle.cm_stepped.specs.declared.stepped.SteppedSession.{SteppedSession}
use Rattle.cm_stepped.specs.Stepping.{IsBehind, SteppedMatches, HandsOut, MayHandOut, NotesCall}
use Rattle.cm_stepped.specs.Stepping.{AsksNone, Asks, AsksNext, Makes, Steps, rests, is_last}
use Rattle.cm_stepped.specs.Stepping.{is_idle}

-- ---- the session's next call

pub rested : (k next : Machine) (progress : Progress) → rests progress ≡ true
    → Advancing k (Ok progress) next → (k.acknowledged ≡ k.sealed) × (next ≡ k)
rested k next Idle e a = (a.1, a.2)
rested k next Working e a = absurd (cc)
rested k next (Done receipt) e a = absurd (cc)
rested k next (Trimmed roots) e a = absurd (cc)

pub none_called : (progress : Progress) → rests progress ≡ true → IsNoCall (Ok progress)
none_called Idle e = tt
none_called Working e = absurd (cc)
none_called (Done receipt) e = absurd (cc)
none_called (Trimmed roots) e = absurd (cc)

pub called_so : {D : Type 0} (called : D → D → Bool → Type 0) (old new : D) (progress : Progress)
    → rests progress ≡ false → CallsDevice called old (Ok progress) new → called old new true
called_so called old new Idle e c = absurd (cc)
called_so called old new Working e c = c
called_so called old new (Done receipt) e c = c
called_so called old new (Trimmed roots) e c = c

pub failed_so : {D : Type 0} (called : D → D → Bool → Type 0) (old new : D) (k next : Machine)
    (why : AdvanceFault) → k.failed ≡ false → Advancing k (Err why) next
    → CallsDevice called old (Err why) new
    → (next ≡ record k { failed = true }) × called old new false
failed_so called old new k next fault.Device works a c = (a.1, c)
failed_so called old new k next fault.Broken works a c =
    let wrong : true ≡ false = sym a.0 ∙ works in absurd (cc)

-- a machine that the session matches, while no call is asked for
pub level_again : {D : Type 0} (k next : Machine) (s : SteppedSession D) (new : Session D)
    → SteppedMatches k s → s.asked ≡ None → next.acknowledged ≡ k.acknowledged
    → accepted_to next ≡ accepted_to k → next.failed ≡ k.failed → SessionMatches next new
    → SteppedMatches next (record s { session = new })
level_again k next s new m none stored accepted failed i = record {
  ahead = record {
    next = next;
    does = subst (λ p. IsBehind next p next) (sym none) refl;
    matches = i;
  };
  stored = stored ∙ m.stored;
  accepted = accepted ∙ m.accepted;
  works = λ sound. failed ∙ m.works sound;
}

-- ---- handing out

pub handed : (k next : Machine) (result : Result (Option Sealed) AllocError) → IsOk result
    → Sealing k result next → HandsOut k next
handed k next (Ok None) ok s = inl (s.1, s.0)
handed k next (Ok (Some group)) ok s = inr (group.first, group.last, s)
handed k next (Err e) ok s = absurd (cc)

pub handed_rest : (k next : Machine) → HandsOut k next
    → (next.acknowledged ≡ k.acknowledged) × (accepted_to next ≡ accepted_to k)
    × (next.failed ≡ k.failed)
handed_rest k next (inl h) = (
  ap (λ (m : Machine). m.acknowledged) h.0,
  ap accepted_to h.0,
  ap (λ (m : Machine). m.failed) h.0,
)
handed_rest k next (inr h) = (
  ap (λ (m : Machine). m.acknowledged) h.2.next_is,
  ap accepted_to h.2.next_is,
  ap (λ (m : Machine). m.failed) h.2.next_is,
)

may_hand_out : (k next : Machine) → HandsOut k next → MayHandOut k next
may_hand_out k next (inl h) = inl h.0
may_hand_out k next (inr h) = inr h

-- ---- asking

-- the first call of the session asked for one
pub asks_first : {D : Type 0} (view : View D) (called : D → D → Bool → Type 0) (k : Machine)
    (old : SteppedSession D) (result : Result Step Broken) (new : SteppedSession D)
    (next : Machine) → is_idle result ≡ false → Asks view called k old result new next
    → AsksNext view called k old result new next
asks_first view called k old (Ok IsIdle) new next e a = absurd (cc)
asks_first view called k old (Ok Call) new next e a =
    (inl a.0, subst (λ m. NotesCall view called m old true new) (sym a.0) a.1)
asks_first view called k old (Ok (Stored number)) new next e a = absurd a
asks_first view called k old (Err broken) new next e a = (k, inl refl, a.0, a.1, a.2)

-- the disk and the sizes are as they were
pub record IsOver {D : Type 0} (old mid : SteppedSession D) : Type 0 where
  pub disk : mid.session.committer.disk ≡ old.session.committer.disk
  pub sizes : mid.session.committer.sizes ≡ old.session.committer.sizes

pub notes_over : {D : Type 0} (view : View D) (called : D → D → Bool → Type 0) (k : Machine)
    (old mid : SteppedSession D) (ok : Bool) (new : SteppedSession D) → IsOver old mid
    → NotesCall view called k mid ok new → NotesCall view called k old ok new
notes_over view called k old mid ok new none n = record {
  call = subst (λ d. called d new.session.committer.disk ok) none.disk n.call;
  moments = subst (λ d. LeavesOnly view d new.session.committer.disk
      (StandsForSome old.session.committer.sizes k)) none.disk
      (subst (λ z. LeavesOnly view mid.session.committer.disk new.session.committer.disk
      (StandsForSome z k)) none.sizes n.moments);
}

-- the session was at rest, and then a group was handed out if there was one
pub asks_second : {D : Type 0} (view : View D) (called : D → D → Bool → Type 0) (k h : Machine)
    (old mid : SteppedSession D) (result : Result Step Broken) (new : SteppedSession D)
    (next : Machine) → IsOver old mid → k.acknowledged ≡ k.sealed → HandsOut k h
    → Asks view called h mid result new next → AsksNext view called k old result new next
asks_second view called k h old mid (Ok IsIdle) new next none level (inl (same, all)) a = (
  a.0 ∙ same,
  level ∙ all,
  record {
    asked = a.2.asked;
    works = a.2.works;
    disk = a.2.disk ∙ none.disk;
    sizes = a.2.sizes ∙ none.sizes;
  },
)
asks_second view called k h old mid (Ok IsIdle) new next none level (inr (first, last, s)) a =
    let stored = ap (λ (m : Machine). m.acknowledged) s.next_is in
    let sealed = ap (λ (m : Machine). m.sealed) s.next_is in
    absurd (omega (arith, stored, sealed, a.1, level, s.first_is, s.some))
asks_second view called k h old mid (Ok Call) new next none level out a = (
  subst (MayHandOut k) (sym a.0) (may_hand_out k h out),
  subst (λ m. NotesCall view called m old true new) (sym a.0)
      (notes_over view called h old mid true new none a.1),
)
asks_second view called k h old mid (Ok (Stored number)) new next none level out a = absurd a
asks_second view called k h old mid (Err broken) new next none level out a = (
  h,
  may_hand_out k h out,
  a.0,
  notes_over view called h old mid false new none a.1,
  a.2,
)

-- ---- a call is made

same_noticed : (a b : Bool) → b ≡ false → (a || b) ≡ a
same_noticed true b e = refl
same_noticed false b e = e

learnt : (k j next : Machine) (n number : ℕ) → k.failed ≡ false → Acknowledges k n j
    → Learns j number next → (number ≡ n) × Acknowledges k n next
learnt k j next n number works a l = (
  l.number_is ∙ ap (λ (m : Machine). m.acknowledged) a.next_is,
  record {
    more = a.more;
    known = a.known;
    next_is = l.next_is
        ∙ (ap (λ (m : Machine). record m { noticed = m.noticed || m.failed }) a.next_is
        ∙ ap (λ b. record k { acknowledged = n; noticed = b })
        (same_noticed k.noticed k.failed works));
  },
)

-- what was made, and that nothing but the acknowledged number changes
pub record MakesLast (k : Machine) (asked : Option Progress) (number : ℕ) (next : Machine)
    : Type 0 where
  pub makes : Makes k asked (Some number) next
  pub accepted : accepted_to next ≡ accepted_to k
  pub failed : next.failed ≡ k.failed

-- the last call of a group was made, and the session learns what is stored
pub made_last : (k j next : Machine) (asked : Option Progress) (number : ℕ)
    → is_last asked ≡ true → IsBehind k asked j → Learns j number next
    → MakesLast k asked number next
made_last k j next None number e b l = absurd (cc)
made_last k j next (Some Idle) number e b l = absurd (cc)
made_last k j next (Some Working) number e b l = absurd (cc)
made_last k j next (Some (Trimmed roots)) number e b l = absurd (cc)
made_last k j next (Some (Done receipt)) number e b l =
    let h = learnt k j next receipt.number number b.0 b.1 l in
    record {
      makes = (ap Some h.0, h.1);
      accepted = ap accepted_to h.1.next_is;
      failed = ap (λ (m : Machine). m.failed) h.1.next_is;
    }

-- any other call was made, or none
pub made_other : (k j : Machine) (asked : Option Progress) → is_last asked ≡ false
    → IsBehind k asked j → (j ≡ k) × Makes k asked None k
made_other k j None e b = (b, (refl, refl))
made_other k j (Some Idle) e b = (b.2, (refl, refl))
made_other k j (Some Working) e b = (b.1, (refl, refl))
made_other k j (Some (Trimmed roots)) e b = (b.1, (refl, refl))
made_other k j (Some (Done receipt)) e b = absurd (cc)

-- a number is told for the last call of a group alone
pub tells : (k next : Machine) (asked : Option Progress) (number : ℕ)
    → Makes k asked (Some number) next
    → (asked ≡ Some (Done (record { number = number }))) × Acknowledges k number next
tells k next None number m = absurd (cc)
tells k next (Some Idle) number m = absurd (cc)
tells k next (Some Working) number m = absurd (cc)
tells k next (Some (Trimmed roots)) number m = absurd (cc)
tells k next (Some (Done receipt)) number m =
    let same : number ≡ receipt.number = cc in (
      ap (λ n. Some (Done (record { number = n }))) (sym same),
      subst (λ n. Acknowledges k n next) (sym same) m.1,
    )

-- and for any other call nothing changes
pub untold : (k next : Machine) (asked : Option Progress) → Makes k asked None next → next ≡ k
untold k next None m = m.1
untold k next (Some Idle) m = m.1
untold k next (Some Working) m = m.1
untold k next (Some (Trimmed roots)) m = m.1
untold k next (Some (Done receipt)) m = absurd (cc)

-- ---- a step

pub idle_asks : {D : Type 0} (view : View D) (called : D → D → Bool → Type 0) (k : Machine)
    (old : SteppedSession D) (result : Result Step Broken) (new : SteppedSession D)
    (next : Machine) → is_idle result ≡ true → Asks view called k old result new next
    → (next ≡ k) × (k.acknowledged ≡ k.sealed)
idle_asks view called k old (Ok IsIdle) new next e a = (a.0, a.1)
idle_asks view called k old (Ok Call) new next e a = absurd (cc)
idle_asks view called k old (Ok (Stored number)) new next e a = absurd (cc)
idle_asks view called k old (Err broken) new next e a = absurd (cc)

pub steps_on : {D : Type 0} (view : View D) (called : D → D → Bool → Type 0) (k : Machine)
    (old mid : SteppedSession D) (result : Result Step Broken) (new : SteppedSession D)
    (next : Machine) → IsOver old mid → AsksNext view called k mid result new next
    → Steps view called k old result new next
steps_on view called k old mid (Ok IsIdle) new next over a = (
  a.0,
  a.1,
  record {
    asked = a.2.asked;
    works = a.2.works;
    disk = a.2.disk ∙ over.disk;
    sizes = a.2.sizes ∙ over.sizes;
  },
)
steps_on view called k old mid (Ok Call) new next over a =
    (a.0, notes_over view called next old mid true new over a.1)
steps_on view called k old mid (Ok (Stored number)) new next over a = absurd a
steps_on view called k old mid (Err broken) new next over a =
    (a.0, a.1, a.2, notes_over view called a.0 old mid false new over a.3, a.4)
