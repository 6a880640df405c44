-- A command that is stored before the next one.
-- For `Session::advance_group`, `Session::store`.
use Rattle.std.proofs.Common.{◌≡◌, ℕ, ◌+◌, ◌≤◌, ◌<◌, Bool, true, false, List, [], ◌∷◌}
use Rattle.std.proofs.Common.{Option, Some, None, Result, Ok, Err, inl, inr, refl, sym, ap, subst}
use Rattle.std.proofs.Common.{◌∙◌, arith}
use Rattle.std.specs.Prelude.{◌||◌, IsOk}
use Rattle.std.specs.Result.{is_err}
use Rattle.std.proofs.lemmas.List.{length-append}
use Rattle.cm_disk.specs.Disk.{View}
use Rattle.cm_class.specs.declared.class_file.ClassFile.{ClassFile}
use Rattle.cm_pool.specs.Geometry.{Sizes}
use Rattle.cm_state.specs.Step.{Change}
use Rattle.cm_group.specs.Groups.{Handed}
use Rattle.cm_commit.specs.declared.progress.Progress.{Progress}
use Rattle.cm_commit.specs.declared.progress.Progress.TheVariants.{Idle, Working, Done, Trimmed}
use Rattle.cm_commit.specs.declared.progress.AdvanceFault.{AdvanceFault}
use Rattle.cm_commit.specs.declared.progress.AdvanceFault.TheVariants.{Device, Broken}
use Rattle.cm_guards.specs.Stages.{Stage, calls_left}
use Rattle.cm_commit.specs.States.{CommitterState}
use Rattle.cm_commit.specs.Advances.{Advances, HasRisen}
use Rattle.cm_guards.proofs.{one_call_less}
use Rattle.cm_commands.specs.declared.refusal.Refusal.{Refusal}
use Rattle.cm_commands.specs.Machine.{Machine, Asks, Seals, accepted_to}
use Rattle.cm_session.specs.declared.session.Sealed.{Sealed}
use Rattle.cm_session.specs.Images.{StandsForSome}
use Rattle.cm_session.specs.declared.storing.NotStored.TheVariants.{Refused, Unsure}
use Rattle.cm_session.specs.Moves.{ReachesMachine, Accepting, Answers, Sealing, Advancing, Learns}
use Rattle.cm_session.specs.Moves.{MayTake}
use Rattle.cm_session.specs.Moves.{Steps}
use Rattle.cm_session.specs.Storing.{IsWorking, HasTrimmed, NoTrim, IsAtRest, Hands, Storing}
use Rattle.cm_session.specs.Storing.{FailsOnly}

-- ---- how many calls may follow

-- the calls that are left, and one more while calls are made
abbrev pub weight : Result Progress AdvanceFault → List Stage → ℕ
weight (Ok Idle) left = calls_left left
weight (Ok Working) left = 1 + calls_left left
weight (Ok (Done receipt)) left = calls_left left
weight (Ok (Trimmed roots)) left = calls_left left
weight (Err Device) left = calls_left left
weight (Err Broken) left = calls_left left

not_empty : (left : List Stage) → 1 ≤ calls_left left → left ≡ [] → ⊥
not_empty left some none = let calls = ap calls_left none in omega (arith, some, calls)

-- while calls are made, some are left
pub some_left : {D : Type 0} (view : View D) (waiting : List Handed)
    (old new : CommitterState D) (result : Result Progress AdvanceFault)
    → Steps view waiting old result new → IsWorking result → 1 ≤ calls_left new.left
some_left view waiting old new (Ok Idle) s working = absurd (cc)
some_left view waiting old new (Ok Working) s working =
    let left = s.begun.left in
    let more = s.moved.more in
    let less = one_call_less left (not_empty left (omega (arith, more))) in
    let same = ap (λ (c : CommitterState _). calls_left c.left) s.moved.new_is in
    omega (arith, more, less, same)
some_left view waiting old new (Ok (Done receipt)) s working = absurd (cc)
some_left view waiting old new (Ok (Trimmed roots)) s working = absurd (cc)
some_left view waiting old new (Err Device) s working = absurd (cc)
some_left view waiting old new (Err Broken) s working = absurd (cc)

-- a committer with calls left takes no group
same_begun : {D : Type 0} (view : View D) (waiting : List Handed)
    (old begun : CommitterState D) → 1 ≤ calls_left old.left
    → MayTake view waiting old begun → begun ≡ old
same_begun view waiting old begun some (inl same) = same
same_begun view waiting old begun some (inr taken) =
    let none = taken.1 in absurd (omega (arith, some, none))

fewer_of : {D : Type 0} (old new : CommitterState D) (result : Result Progress AdvanceFault)
    → 1 ≤ calls_left old.left → Advances old result new
    → weight result new.left < 1 + calls_left old.left
fewer_of old new (Ok Idle) some r =
    let same = ap (λ (c : CommitterState _). calls_left c.left) r.stays in omega (arith, same)
fewer_of old new (Ok Working) some w =
    let less = one_call_less old.left (not_empty old.left some) in
    let same = ap (λ (c : CommitterState _). calls_left c.left) w.new_is in
    omega (arith, less, same)
fewer_of old new (Ok (Done receipt)) some f =
    let same = ap (λ (c : CommitterState _). calls_left c.left) f.new_is in
    omega (arith, some, same)
fewer_of old new (Ok (Trimmed roots)) some t =
    let same = ap (λ (c : CommitterState _). calls_left c.left) t.new_is in
    omega (arith, some, same)
fewer_of old new (Err Device) some b =
    let same = ap (λ (c : CommitterState _). calls_left c.left) b.new_is in omega (arith, same)
fewer_of old new (Err Broken) some s =
    let same = ap (λ (c : CommitterState _). calls_left c.left) s.stays in omega (arith, same)

weight_working : (result : Result Progress AdvanceFault) (left : List Stage) → IsWorking result
    → weight result left ≡ 1 + calls_left left
weight_working (Ok Idle) left working = absurd (cc)
weight_working (Ok Working) left working = refl
weight_working (Ok (Done receipt)) left working = absurd (cc)
weight_working (Ok (Trimmed roots)) left working = absurd (cc)
weight_working (Err Device) left working = absurd (cc)
weight_working (Err Broken) left working = absurd (cc)

-- one call less
pub fewer : {D : Type 0} (view : View D) (waiting : List Handed)
    (old new : CommitterState D) (before result : Result Progress AdvanceFault) → IsWorking before
    → 1 ≤ calls_left old.left → Steps view waiting old result new
    → weight result new.left < weight before old.left
fewer view waiting old new before result working some s =
    let same = same_begun view waiting old s.begun some s.takes in
    let less =
    fewer_of old new result some
    (subst (λ (c : CommitterState _). Advances c result new) same s.moved)
    in
    let here = weight_working before old.left working in
    omega (arith, less, here)

-- ---- trims

-- no trim begins by itself
pub no_trim : {D : Type 0} (view : View D) (waiting : List Handed)
    (old new : CommitterState D) (result : Result Progress AdvanceFault) → NoTrim old.underway
    → Steps view waiting old result new → NoTrim new.underway × (HasTrimmed result → ⊥)
no_trim {D} view waiting old new result none s = moved result begun_so s.moved
  where
    begun_of : (begun : CommitterState D) → MayTake view waiting old begun
        → NoTrim begun.underway
    begun_of begun (inl same) =
        subst (λ (c : CommitterState D). NoTrim c.underway) (sym same) none
    begun_of begun (inr taken) =
        subst (λ (c : CommitterState D). NoTrim c.underway) (sym taken.3.0) tt

    begun_so : NoTrim s.begun.underway
    begun_so = begun_of s.begun s.takes

    moved : (r : Result Progress AdvanceFault) → NoTrim s.begun.underway
        → Advances s.begun r new → NoTrim new.underway × (HasTrimmed r → ⊥)
    moved (Ok Idle) so m =
        (subst (λ (c : CommitterState D). NoTrim c.underway) (sym m.stays) so, λ is. is)
    moved (Ok Working) so m =
        (subst (λ (c : CommitterState D). NoTrim c.underway) (sym m.new_is) so, λ is. is)
    moved (Ok (Done receipt)) so m =
        (subst (λ (c : CommitterState D). NoTrim c.underway) (sym m.new_is) tt, λ is. is)
    moved (Ok (Trimmed roots)) so m = absurd (subst NoTrim m.underway so)
    moved (Err Device) so m =
        (subst (λ (c : CommitterState D). NoTrim c.underway) (sym m.new_is) so, λ is. is)
    moved (Err Broken) so m =
        (subst (λ (c : CommitterState D). NoTrim c.underway) (sym m.stays) so, λ is. is)

-- a trim that is done isn't under way
pub trim_done : {D : Type 0} (view : View D) (waiting : List Handed)
    (old new : CommitterState D) (result : Result Progress AdvanceFault)
    → Steps view waiting old result new → HasTrimmed result → NoTrim new.underway
trim_done view waiting old new (Ok Idle) s is = absurd is
trim_done view waiting old new (Ok Working) s is = absurd is
trim_done view waiting old new (Ok (Done receipt)) s is = absurd is
trim_done view waiting old new (Ok (Trimmed roots)) s is =
    subst (λ (c : CommitterState _). NoTrim c.underway) (sym s.moved.new_is) tt
trim_done view waiting old new (Err fault) s is = absurd is

-- it leaves the machine as it was
pub past_trim : {Matching : Machine → Type 0} (k : Machine) (result : Result Progress AdvanceFault)
    → HasTrimmed result → ReachesMachine (Advancing k result) Matching → Matching k
past_trim k (Ok Idle) is reaches = absurd is
past_trim k (Ok Working) is reaches = absurd is
past_trim k (Ok (Done receipt)) is reaches = absurd is
past_trim {Matching = Matching} k (Ok (Trimmed roots)) is reaches =
    subst Matching reaches.does.1 reaches.matches
past_trim k (Err fault) is reaches = absurd is

-- ---- while calls are made the machine stays

pub goes_on : {Matching : Machine → Type 0} (k : Machine) (result : Result Progress AdvanceFault)
    → IsWorking result → ReachesMachine (Advancing k result) Matching → Matching k
goes_on k (Ok Idle) working reaches = absurd (cc)
goes_on {Matching = Matching} k (Ok Working) working reaches =
    subst Matching reaches.does.1 reaches.matches
goes_on k (Ok (Done receipt)) working reaches = absurd (cc)
goes_on k (Ok (Trimmed roots)) working reaches = absurd (cc)
goes_on k (Err Device) working reaches = absurd (cc)
goes_on k (Err Broken) working reaches = absurd (cc)

pub risen : (before between now : ℕ) (first second : Result Progress AdvanceFault)
    → HasRisen before between first → HasRisen between now second → HasRisen before now second
risen before between now first second one two = record {
  later = let here = one.later in let there = two.later in omega (arith, here, there);
  device = λ is. let here = one.later in let rose = two.device is in omega (arith, here, rose);
}

-- ---- one command, from a state of rest to the next

same_flag : (k : Machine) (flag : Bool) → flag ≡ k.noticed → record k { noticed = flag } ≡ k
same_flag k flag same = ap (λ (b : Bool). record k { noticed = b }) same

or_same : (b : Bool) → b || b ≡ b
or_same true = refl
or_same false = refl

or_true : (b : Bool) → b || true ≡ true
or_true true = refl
or_true false = refl

module _ (sizes : Sizes) (k : Machine) (change : Change ClassFile) (number : ℕ) (accepted : Machine)
    (rest : IsAtRest k) (a : Answers sizes k change (Ok number) accepted) where
  sound : k.failed ≡ false
  sound = sym rest.noticed ∙ a.0

  sealed_before : accepted.sealed + 1 ≡ number
  sealed_before =
      let same = ap (λ (m : Machine). m.sealed) a.1.next_is in
      let all = rest.sealed sound in
      let is = a.1.number_is in
      omega (arith, same, all, is)

  stored_before : accepted.acknowledged + 1 ≡ number
  stored_before =
      let same = ap (λ (m : Machine). m.acknowledged) a.1.next_is in
      let all = rest.stored sound in
      let is = a.1.number_is in
      omega (arith, same, all, is)

  pub all_stored : accepted.acknowledged ≡ accepted.sealed
  all_stored =
      let sealed = sealed_before in
      let stored = stored_before in
      omega (arith, sealed, stored)

  all_commands : accepted_to accepted ≡ number
  all_commands =
      let same = ap accepted_to a.1.next_is in
      let one = length-append k.commands (change ∷ []) in
      let is = a.1.number_is in
      omega (arith, same, one, is)

  still_sound : accepted.failed ≡ false
  still_sound = ap (λ (m : Machine). m.failed) a.1.next_is ∙ sound

  not_noticed : accepted.noticed ≡ false
  not_noticed = ap (λ (m : Machine). m.noticed) a.1.next_is ∙ a.0

  pub some_waits : accepted.sealed ≡ accepted_to accepted → ⊥
  some_waits none =
      let here = sealed_before in
      let all = all_commands in
      omega (arith, none, here, all)

  abbrev pub handed : Machine
  handed = record accepted { sealed = number }

  -- the command is all of the group
  pub is_handed : (group : Sealed) (next : Machine) → Seals accepted group.first group.last next
      → next ≡ handed
  is_handed group next s =
      let first = s.first_is in
      let some = s.some in
      let known = s.known in
      let here = sealed_before in
      let all = all_commands in
      let last : group.last ≡ number = omega (arith, first, some, known, here, all) in
      s.next_is ∙ ap (λ (n : ℕ). record accepted { sealed = n }) last

  abbrev pub stored : Machine
  stored = record handed { acknowledged = number }

  pub is_stored : (p : Progress) (next : Machine) → (IsWorking (Ok p) → ⊥)
      → (HasTrimmed (Ok p) → ⊥) → Advancing handed (Ok p) next → next ≡ stored
  is_stored Idle next ends past d =
      let before = stored_before in
      let all = d.1 in
      absurd (omega (arith, before, all))
  is_stored Working next ends past d = absurd (ends refl)
  is_stored (Trimmed roots) next ends past d = absurd (past tt)
  is_stored (Done receipt) next ends past d =
      let before = stored_before in
      let more = d.1.more in
      let known = d.1.known in
      let last : receipt.number ≡ number = omega (arith, before, more, known) in
      d.1.next_is ∙ ap (λ (n : ℕ). record handed { acknowledged = n }) last

  pub learnt : (n : ℕ) (next : Machine) → Learns stored n next → next ≡ stored
  learnt n next l =
      l.next_is
      ∙ same_flag stored (accepted.noticed || accepted.failed)
      (ap (λ (b : Bool). accepted.noticed || b) (still_sound ∙ sym not_noticed)
      ∙ or_same accepted.noticed)

  pub rests : IsAtRest stored
  rests = record {
    noticed = not_noticed ∙ sym still_sound;
    sealed = λ x. sym all_commands;
    stored = λ x. sym all_commands;
  }

  abbrev pub lost : Machine
  lost = record handed { failed = true; noticed = true }

  pub is_failed : (e : AdvanceFault) (next : Machine) → Advancing handed (Err e) next
      → next ≡ record handed { failed = true }
  is_failed Device next d = d.1
  is_failed Broken next d = absurd (not_both (sym still_sound ∙ d.0))
    where
      not_both : false ≡ true → ⊥
      not_both same = cc

  pub noticed_now : (n : ℕ) (next : Machine) → Learns (record handed { failed = true }) n next
      → next ≡ lost
  noticed_now n next l =
      l.next_is
      ∙ ap (λ (b : Bool). record handed { failed = true; noticed = b }) (or_true accepted.noticed)

  pub rests_lost : IsAtRest lost
  rests_lost = record {
    noticed = refl;
    sealed = λ same. absurd (cc);
    stored = λ same. absurd (cc);
  }

  -- ---- the call as a whole

  hands : (Moments : (List ℕ → Type 0) → Type 0) → Moments (StandsForSome sizes handed)
      → Hands sizes k change Moments number handed
  hands Moments moments = record {
    accepted = accepted;
    answers = a;
    handed_is = refl;
    moments = moments;
  }

  pub stores : {Moved Matching : Machine → Type 0} (asked : Change (List ℕ)) → Asks asked change
      → (Moments : (List ℕ → Type 0) → Type 0) → Moments (StandsForSome sizes handed)
      → (p : Progress) → (IsWorking (Ok p) → ⊥) → (HasTrimmed (Ok p) → ⊥)
      → ReachesMachine (Advancing handed (Ok p)) Moved → (n : ℕ)
      → ((j : Machine) → Moved j → ReachesMachine (Learns j n) Matching)
      → Storing sizes k asked Moments (Ok number) Matching
  stores {Moved = Moved} {Matching = Matching} asked asks Moments moments p ends past moved n learns
      =
      let l = learns stored
      (subst Moved (is_stored p moved.next ends past moved.does) moved.matches) in
      let same = learnt n l.next l.does in
      record {
        change = change;
        asks = asks;
        reaches = record {
          next = stored;
          does = (handed, hands Moments moments, refl, rests);
          matches = subst Matching same l.matches;
        };
      }

  pub loses : {Moved Matching : Machine → Type 0} (asked : Change (List ℕ)) → Asks asked change
      → (Moments : (List ℕ → Type 0) → Type 0) → Moments (StandsForSome sizes handed)
      → (e : AdvanceFault) → ReachesMachine (Advancing handed (Err e)) Moved → (n : ℕ)
      → ((j : Machine) → Moved j → ReachesMachine (Learns j n) Matching)
      → Storing sizes k asked Moments (Err (Unsure number)) Matching
  loses {Moved = Moved} {Matching = Matching} asked asks Moments moments e moved n learns =
      let l = learns (record handed { failed = true })
      (subst Moved (is_failed e moved.next moved.does) moved.matches) in
      let same = noticed_now n l.next l.does in
      record {
        change = change;
        asks = asks;
        reaches = record {
          next = lost;
          does = (handed, hands Moments moments, refl, rests_lost);
          matches = subst Matching same l.matches;
        };
      }

  -- the device failed in this call
  pub fails : {Moved : Machine → Type 0} (before now : ℕ) (e : AdvanceFault)
      → ReachesMachine (Advancing handed (Err e)) Moved → HasRisen before now (Err e)
      → FailsOnly before now (Err (Unsure number))
  fails before now Device moved risen = record {
    later = risen.later;
    unsure = λ x. risen.device tt;
  }
  fails before now Broken moved risen = absurd (not_both (sym still_sound ∙ moved.does.0))
    where
      not_both : false ≡ true → ⊥
      not_both same = cc

-- ---- a command that isn't handed out

pub refuses : {Matching : Machine → Type 0} (sizes : Sizes) (k : Machine) (asked : Change (List ℕ))
    (Moments : (List ℕ → Type 0) → Type 0) (r : Refusal) → IsAtRest k
    → Accepting sizes k asked (Err r) Matching
    → Storing sizes k asked Moments (Err (Refused r)) Matching
refuses sizes k asked Moments r rest accepting = record {
  change = accepting.change;
  asks = accepting.asks;
  reaches = record {
    next = accepting.reaches.next;
    does = (accepting.reaches.does, subst IsAtRest (sym accepting.reaches.does.0) rest);
    matches = accepting.reaches.matches;
  };
}

-- what can't happen if there is a place
pub no_place : {T E : Type 0} {X : Type 0} (r : Result T E) → true ≡ is_err r → IsOk r → X
no_place (Ok x) refused ok = absurd (cc)
no_place (Err e) refused ok = absurd (cc)

-- the group that was handed out
pub sealed : {Matching : Machine → Type 0} {E : Type 0} (sizes : Sizes) (k : Machine)
    (change : Change ClassFile) (number : ℕ) (accepted : Machine) (rest : IsAtRest k)
    (a : Answers sizes k change (Ok number) accepted) (result : Result (Option Sealed) E)
    → IsOk result → ReachesMachine (Sealing accepted result) Matching
    → Matching (handed sizes k change number accepted rest a)
sealed sizes k change number accepted rest a (Ok None) is seals =
    absurd (some_waits sizes k change number accepted rest a seals.does.0)
sealed {Matching = Matching} sizes k change number accepted rest a (Ok (Some group)) is seals =
    subst Matching (is_handed sizes k change number accepted rest a group seals.next seals.does)
    seals.matches
sealed sizes k change number accepted rest a (Err e) is seals = absurd (cc)
