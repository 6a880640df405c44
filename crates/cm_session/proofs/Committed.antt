-- All that was accepted is stored, group after group.
-- For `Session::commit`, `Session::store_groups`, `Session::store_handed`.
use Rattle.std.proofs.Common.{◌≡◌, ℕ, ◌+◌, ◌≤◌, ◌<◌, Bool, true, false, List, Option, Some}
use Rattle.std.proofs.Common.{None, Result, Ok, Err, inl, inr, refl, sym, ap, subst, ◌∙◌, arith}
use Rattle.std.specs.Prelude.{◌⊎◌, ◌||◌, IsOk}
use Rattle.std.specs.Result.{is_err}
use Rattle.cm_disk.specs.declared.disk.DeviceFault.{DeviceFault}
use Rattle.cm_disk.specs.Disk.{View, Unsynced}
use Rattle.cm_pool.specs.Geometry.{Sizes}
use Rattle.cm_group.specs.Groups.{Handed}
use Rattle.cm_guards.specs.Guards.{EachImage}
use Rattle.cm_guards.specs.Calls.{LeavesOnly}
use Rattle.cm_guards.proofs.{leaves_on, leaves_more}
use Rattle.cm_commit.specs.declared.progress.Progress.{Progress}
use Rattle.cm_commit.specs.declared.progress.Progress.TheVariants.{Idle, Working, Done, Trimmed}
use Rattle.cm_commit.specs.declared.progress.AdvanceFault.{AdvanceFault}
use Rattle.cm_commit.specs.declared.progress.AdvanceFault.TheVariants.{Device, Broken}
use Rattle.cm_commit.specs.States.{CommitterState}
use Rattle.cm_commit.specs.Advances.{HasRisen}
use Rattle.cm_front.specs.Front.{FrontState}
use Rattle.cm_commands.specs.Machine.{Machine, accepted_to}
use Rattle.cm_session.specs.declared.session.Sealed.{Sealed}
use Rattle.cm_session.specs.Images.{StandsFor, StandsForSome}
use Rattle.cm_session.specs.Session.{IsSession}
use Rattle.cm_session.specs.Moves.{ReachesMachine, Sealing, Advancing, Learns}
use Rattle.cm_session.specs.Storing.{IsWorking, HasTrimmed}
use Rattle.cm_session.specs.Committing.{IsCaughtUp, all_handed, all_stored, StoresHanded}
use Rattle.cm_session.specs.Committing.{Commits, CommitsUnlearnt, TellsFailure}

-- ---- the numbers of a session

module _ {D : Type 0} (k : Machine) (front : FrontState) (committer : CommitterState D)
    (queue : List Handed) (sealed : ℕ) (failed : Bool)
    (i : IsSession k front committer queue sealed failed) where
  pub within : k.acknowledged ≤ k.sealed
  within =
      let stored = i.told.acknowledged_is in
      let is = i.told.sealed_is in
      let handed = i.between.ahead.sealed in
      omega (arith, stored, is, handed)

  pub told : sealed ≡ k.sealed
  told = i.told.sealed_told ∙ sym i.told.sealed_is

-- ---- another machine with the same commands

-- of these numbers
abbrev pub numbered : Machine → ℕ → ℕ → Machine
numbered k sealed acknowledged = record k { sealed = sealed; acknowledged = acknowledged }

stands_as : (sizes : Sizes) (k : Machine) (sealed acknowledged number : ℕ) (contents : List ℕ)
    → StandsFor sizes (numbered k sealed acknowledged) number contents
    → StandsFor sizes k number contents
stands_as sizes k sealed acknowledged number contents s = record {
  from = s.from;
  known = s.known;
  state = s.state;
  arenas = s.arenas;
  stands = s.stands;
  holds = s.holds;
}

stands_so : (sizes : Sizes) (k : Machine) (sealed acknowledged number : ℕ) (contents : List ℕ)
    → StandsFor sizes k number contents
    → StandsFor sizes (numbered k sealed acknowledged) number contents
stands_so sizes k sealed acknowledged number contents s = record {
  from = s.from;
  known = s.known;
  state = s.state;
  arenas = s.arenas;
  stands = s.stands;
  holds = s.holds;
}

-- what stands for some of fewer commands stands for some of more
wider : (sizes : Sizes) (k : Machine) (least sealed acknowledged most : ℕ) → least ≤ acknowledged
    → sealed ≤ most → (contents : List ℕ)
    → StandsForSome sizes (numbered k sealed acknowledged) contents
    → StandsForSome sizes (numbered k most least) contents
wider sizes k least sealed acknowledged most less more contents s = record {
  number = s.number;
  least = omega (arith, less, s.least);
  most = omega (arith, more, s.most);
  stands = stands_so sizes k most least s.number contents
      (stands_as sizes k sealed acknowledged s.number contents s.stands);
}

module _ {D : Type 0} (view : View D) where
  -- two runs, of which the second leaves no more than the first may
  pub on : (a b c : D) (sizes : Sizes) (k : Machine) (least sealed acknowledged most : ℕ)
      → least ≤ acknowledged → sealed ≤ most
      → LeavesOnly view a b (StandsForSome sizes (numbered k most least))
      → LeavesOnly view b c (StandsForSome sizes (numbered k sealed acknowledged))
      → LeavesOnly view a c (StandsForSome sizes (numbered k most least))
  on a b c sizes k least sealed acknowledged most less more first second =
      leaves_on view a b c (StandsForSome sizes (numbered k most least)) first
      (leaves_more view b c (StandsForSome sizes (numbered k sealed acknowledged))
      (StandsForSome sizes (numbered k most least))
      (wider sizes k least sealed acknowledged most less more) second)

-- ---- what was handed out

-- The session goes with the machine that has this number acknowledged: that of the turn at least,
-- or all.
pub record IsStoring (k : Machine) (turn : ℕ) (Matching : Machine → Type 0) : Type 0 where
  pub number : ℕ
  pub least : k.acknowledged ≤ number
  pub most : number ≤ k.sealed
  pub matches : Matching (record k { acknowledged = number })
  pub far : (turn ≤ number) ⊎ (number ≡ k.sealed)

pub storing_starts : (k : Machine) (turn : ℕ) (Matching : Machine → Type 0)
    → k.acknowledged ≤ k.sealed → turn ≡ k.acknowledged → Matching k → IsStoring k turn Matching
storing_starts k turn Matching within first matches = record {
  number = k.acknowledged;
  least = omega arith;
  most = within;
  matches = matches;
  far = inl (omega (arith, first));
}

module _ (k : Machine) (turn : ℕ) (Matching Next : Machine → Type 0)
    (s : IsStoring k turn Matching) (sound : k.failed ≡ false) where
  abbrev pub between : Machine
  between = record k { acknowledged = s.number }

  farther : (number : ℕ) → s.number < number → number ≤ k.sealed
      → (turn + 1 ≤ number) ⊎ (number ≡ k.sealed)
  farther number more known = by s.far
    where
      by : ((turn ≤ s.number) ⊎ (s.number ≡ k.sealed))
          → (turn + 1 ≤ number) ⊎ (number ≡ k.sealed)
      by (inl far) = inl (omega (arith, far, more))
      by (inr all) = absurd (omega (arith, all, more, known))

  -- a group more is stored, or all was before
  pub storing_on : (p : Progress) → (IsWorking (Ok p) → ⊥) → (HasTrimmed (Ok p) → ⊥)
      → ReachesMachine (Advancing between (Ok p)) Next → IsStoring k (turn + 1) Next
  storing_on Idle ends past r = record {
    number = s.number;
    least = s.least;
    most = s.most;
    matches = subst Next r.does.2 r.matches;
    far = inr r.does.1;
  }
  storing_on Working ends past r = absurd (ends refl)
  storing_on (Trimmed roots) ends past r = absurd (past tt)
  storing_on (Done receipt) ends past r =
      let a = r.does.1 in
      let more = a.more in
      let known = a.known in
      let less = s.least in
      record {
        number = receipt.number;
        least = omega (arith, less, more);
        most = known;
        matches = subst Next a.next_is r.matches;
        far = farther receipt.number more known;
      }

  -- the device failed
  pub storing_breaks : (e : AdvanceFault) (fault : DeviceFault)
      → ReachesMachine (Advancing between (Err e)) Next
      → ReachesMachine (StoresHanded k (Err fault)) Next
  storing_breaks Device fault r = record {
    next = r.next;
    does = (s.number, s.least, s.most, r.does.1);
    matches = r.matches;
  }
  storing_breaks Broken fault r =
      let broken = sym sound ∙ r.does.0 in
      absurd (cc)

module _ (k : Machine) (turn : ℕ) (Matching Next : Machine → Type 0)
    (s : IsStoring k turn Matching) where
  pub storing_ok : k.failed ≡ false → (result : Result Progress AdvanceFault) (is : Bool)
      → is ≡ is_err result → is ≡ false → (IsWorking result → ⊥) → (HasTrimmed result → ⊥)
      → ReachesMachine (Advancing (record k { acknowledged = s.number }) result) Next
      → IsStoring k (turn + 1) Next
  storing_ok sound (Ok p) is value none ends past r =
      storing_on k turn Matching Next s sound p ends past r
  storing_ok sound (Err e) is value none ends past r = absurd (cc)

  pub storing_err : k.failed ≡ false → (result : Result Progress AdvanceFault) (is : Bool)
      → is ≡ is_err result → is ≡ true → (fault : DeviceFault)
      → ReachesMachine (Advancing (record k { acknowledged = s.number }) result) Next
      → ReachesMachine (StoresHanded k (Err fault)) Next
  storing_err sound (Ok p) is value failed fault r = absurd (cc)
  storing_err sound (Err e) is value failed fault r =
      storing_breaks k turn Matching Next s sound e fault r

  pub tells_failed : k.failed ≡ false → (result : Result Progress AdvanceFault) (is : Bool)
      → is ≡ is_err result → is ≡ true
      → ReachesMachine (Advancing (record k { acknowledged = s.number }) result) Next
      → (before mid now : ℕ) → before ≤ mid → HasRisen mid now result
      → (fault : Result (Unit {0}) DeviceFault) → TellsFailure before now fault
  tells_failed sound (Ok p) is value failed r before mid now later rises fault = absurd (cc)
  tells_failed sound (Err Device) is value failed r before mid now later rises fault =
      let more = rises.device tt in
      record { later = omega (arith, later, more); failed = λ is. omega (arith, later, more) }
  tells_failed sound (Err Broken) is value failed r before mid now later rises fault =
      let broken = sym sound ∙ r.does.0 in absurd (cc)

pub risen_later : (before mid now : ℕ) (result : Result Progress AdvanceFault)
    → before ≤ mid → HasRisen mid now result → before ≤ now
risen_later before mid now result later rises =
    let more = rises.later in omega (arith, later, more)

-- after the turns
pub storing_ends : (k : Machine) (turn : ℕ) (Matching : Machine → Type 0)
    → IsStoring k turn Matching
    → k.sealed ≤ turn → (done : Unit {0})
    → ReachesMachine (StoresHanded k (Ok done)) Matching
storing_ends k turn Matching s enough done = record {
  next = record k { acknowledged = s.number };
  does = ap (λ (n : ℕ). record k { acknowledged = n }) all;
  matches = s.matches;
}
  where
    by : ((turn ≤ s.number) ⊎ (s.number ≡ k.sealed)) → s.number ≡ k.sealed
    by (inl far) = let most = s.most in omega (arith, far, most, enough)
    by (inr all) = all

    all : s.number ≡ k.sealed
    all = by s.far

-- ---- what was accepted

-- The session goes with the machine that has the commands up to this number handed out and
-- acknowledged: that of the turn at least, or all.
pub record IsCommitting (k : Machine) (turn : ℕ) (Matching : Machine → Type 0) : Type 0 where
  pub number : ℕ
  pub least : k.sealed ≤ number
  pub most : number ≤ accepted_to k
  pub matches : Matching (numbered k number number)
  pub far : (turn ≤ number) ⊎ (number ≡ accepted_to k)

pub committing_starts : (k : Machine) (turn : ℕ) (Matching : Machine → Type 0)
    → k.acknowledged ≡ k.sealed → k.sealed ≤ accepted_to k → turn ≡ k.sealed → Matching k
    → IsCommitting k turn Matching
committing_starts k turn Matching stored known first matches = record {
  number = k.sealed;
  least = omega arith;
  most = known;
  matches = subst (λ (n : ℕ). Matching (record k { acknowledged = n })) stored matches;
  far = inl (omega (arith, first));
}

-- more may be handed out: the commands up to this number, one more at least, or all
pub record IsHandedTo (k : Machine) (number : ℕ) (Matching : Machine → Type 0) : Type 0 where
  pub sealed : ℕ
  pub least : number ≤ sealed
  pub most : sealed ≤ accepted_to k
  pub matches : Matching (numbered k sealed number)
  pub far : (number + 1 ≤ sealed) ⊎ (sealed ≡ accepted_to k)

pub seal_hands : {E : Type 0} (k : Machine) (number : ℕ) (Matching : Machine → Type 0)
    (result : Result (Option Sealed) E) → number ≤ accepted_to k → IsOk result
    → ReachesMachine (Sealing (numbered k number number) result) Matching
    → IsHandedTo k number Matching
seal_hands k number Matching (Ok None) known is r = record {
  sealed = number;
  least = omega arith;
  most = known;
  matches = subst Matching r.does.1 r.matches;
  far = inr r.does.0;
}
seal_hands k number Matching (Ok (Some group)) known is r =
    let s = r.does in
    let first = s.first_is in
    let some = s.some in
    let all = s.known in
    record {
      sealed = group.last;
      least = omega (arith, first, some);
      most = all;
      matches = subst Matching s.next_is r.matches;
      far = inl (omega (arith, first, some));
    }
seal_hands k number Matching (Err e) known is r = absurd (cc)

module _ (k : Machine) (turn : ℕ) (Matching Handed Next : Machine → Type 0)
    (caught : IsCaughtUp k) (s : IsCommitting k turn Matching)
    (h : IsHandedTo k s.number Handed) where
  farther_on : (turn + 1 ≤ h.sealed) ⊎ (h.sealed ≡ accepted_to k)
  farther_on = by s.far h.far
    where
      by : ((turn ≤ s.number) ⊎ (s.number ≡ accepted_to k))
          → ((s.number + 1 ≤ h.sealed) ⊎ (h.sealed ≡ accepted_to k))
          → (turn + 1 ≤ h.sealed) ⊎ (h.sealed ≡ accepted_to k)
      by (inl far) (inl more) = inl (omega (arith, far, more))
      by (inl far) (inr all) = inr all
      by (inr all) more =
          let least = h.least in
          let most = h.most in
          inr (omega (arith, all, least, most))

  pub committing_on : (done : Unit {0})
      → ReachesMachine (StoresHanded (numbered k h.sealed s.number) (Ok done)) Next
      → IsCommitting k (turn + 1) Next
  committing_on done r = record {
    number = h.sealed;
    least = let less = s.least in let more = h.least in omega (arith, less, more);
    most = h.most;
    matches = subst Next r.does r.matches;
    far = farther_on;
  }

  pub committing_breaks : (fault : DeviceFault)
      → ReachesMachine (StoresHanded (numbered k h.sealed s.number) (Err fault)) Next
      → ReachesMachine (CommitsUnlearnt k (Err fault)) Next
  committing_breaks fault r =
      let number = r.does.0 in
      record {
        next = r.next;
        does = record {
          acknowledged = number;
          sealed = h.sealed;
          least =
              let stored = caught.stored in
              let less = s.least in
              let more = r.does.1 in
              omega (arith, stored, less, more);
          within = r.does.2;
          most = h.most;
          next_is =
              r.does.3
              ∙ ap (λ (b : Bool). record k {
                acknowledged = number;
                sealed = h.sealed;
                failed = true;
                noticed = b;
              }) caught.unnoticed;
        };
        matches = r.matches;
      }

module _ (k : Machine) (turn : ℕ) (Matching Handed Next : Machine → Type 0)
    (caught : IsCaughtUp k) (s : IsCommitting k turn Matching)
    (h : IsHandedTo k s.number Handed) where
  pub committing_ok : (result : Result (Unit {0}) DeviceFault) (is : Bool) → is ≡ is_err result
      → is ≡ false
      → ReachesMachine (StoresHanded (numbered k h.sealed s.number) result) Next
      → IsCommitting k (turn + 1) Next
  committing_ok (Ok done) is value none r =
      committing_on k turn Matching Handed Next caught s h done r
  committing_ok (Err fault) is value none r = absurd (cc)

  pub committing_err : (result : Result (Unit {0}) DeviceFault) (is : Bool) → is ≡ is_err result
      → is ≡ true → (fault : DeviceFault)
      → ReachesMachine (StoresHanded (numbered k h.sealed s.number) result) Next
      → ReachesMachine (CommitsUnlearnt k (Err fault)) Next
  committing_err (Ok done) is value failed fault r = absurd (cc)
  committing_err (Err e) is value failed fault r =
      committing_breaks k turn Matching Handed Next caught s h fault r

pub told_later : (before mid now : ℕ) (result : Result (Unit {0}) DeviceFault) → before ≤ mid
    → TellsFailure mid now result → before ≤ now
told_later before mid now result later tells =
    let more = tells.later in omega (arith, later, more)

pub told_failed : (before mid now : ℕ) (result : Result (Unit {0}) DeviceFault) (is : Bool)
    → is ≡ is_err result → is ≡ true → before ≤ mid → TellsFailure mid now result
    → (fault : Result (Unit {0}) DeviceFault) → TellsFailure before now fault
told_failed before mid now (Ok done) is value failed later tells fault = absurd (cc)
told_failed before mid now (Err e) is value failed later tells fault =
    let more = tells.failed refl in
    record { later = omega (arith, later, more); failed = λ is. omega (arith, later, more) }

-- what stands for some of what was handed out does so for some of what was accepted
pub first_on : (sizes : Sizes) (k : Machine) (contents : List ℕ) (unsynced : Unsynced)
    → k.sealed ≤ accepted_to k → EachImage contents unsynced (StandsForSome sizes k)
    → EachImage contents unsynced (StandsForSome sizes (all_handed k))
first_on sizes k contents unsynced known images = record {
  each = λ image is.
      wider sizes k k.acknowledged k.sealed k.acknowledged (accepted_to k) (omega arith) known image
      (images.each image is);
}

-- after the turns
pub committing_ends : (k : Machine) (turn : ℕ) (Matching : Machine → Type 0)
    → IsCommitting k turn Matching
    → accepted_to k ≤ turn → (done : Unit {0})
    → ReachesMachine (CommitsUnlearnt k (Ok done)) Matching
committing_ends k turn Matching s enough done = record {
  next = numbered k s.number s.number;
  does = ap (λ (n : ℕ). numbered k n n) all;
  matches = s.matches;
}
  where
    by : ((turn ≤ s.number) ⊎ (s.number ≡ accepted_to k)) → s.number ≡ accepted_to k
    by (inl far) = let most = s.most in omega (arith, far, most, enough)
    by (inr all) = all

    all : s.number ≡ accepted_to k
    all = by s.far

-- ---- what is learnt then

pub learns_all : (k : Machine) (Matching Next : Machine → Type 0)
    (result : Result (Unit {0}) DeviceFault) (number : ℕ) → IsCaughtUp k
    → ReachesMachine (CommitsUnlearnt k result) Matching
    → ((j : Machine) → Matching j → ReachesMachine (Learns j number) Next)
    → ReachesMachine (Commits k result) Next
learns_all k Matching Next (Ok done) number caught r learns =
    let l = learns r.next r.matches in
    record {
      next = l.next;
      does = l.does.next_is ∙ same r.next r.does;
      matches = l.matches;
    }
  where
    flags : (noticed failed : Bool) → noticed ≡ false → failed ≡ false
        → noticed || failed ≡ noticed
    flags true failed none sound = absurd (cc)
    flags false failed none sound = sound

    same : (j : Machine) → j ≡ all_stored k
        → record j { noticed = j.noticed || j.failed } ≡ all_stored k
    same j is =
        ap (λ (m : Machine). record m { noticed = m.noticed || m.failed }) is
        ∙ ap (λ (b : Bool). record k {
          sealed = accepted_to k;
          acknowledged = accepted_to k;
          noticed = b;
        }) (flags k.noticed k.failed caught.unnoticed caught.works)
learns_all k Matching Next (Err fault) number caught r learns =
    let l = learns r.next r.matches in
    let lost = r.does in
    record {
      next = l.next;
      does = record {
        acknowledged = lost.acknowledged;
        sealed = lost.sealed;
        least = lost.least;
        within = lost.within;
        most = lost.most;
        next_is =
            l.does.next_is
            ∙ ap (λ (m : Machine). record m { noticed = m.noticed || m.failed }) lost.next_is;
      };
      matches = l.matches;
    }
