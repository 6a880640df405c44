-- Laws of guards, plans, gates and runs of calls.
use Rattle.std.specs.Prelude.{◌≡◌, ◌≤◌, ◌⊎◌, ℕ, List, [], ◌∷◌, length, Result, IsErr, OnOk}
use Rattle.std.specs.Prelude.{OnErr}
use Rattle.cm_disk.specs.declared.disk.DeviceFault.{DeviceFault}
use Rattle.cm_disk.specs.Disk.{View, Unsynced, IsImage, IsDurable, IsSound, IsWithin, widened}
use Rattle.cm_disk.specs.Disk.{shortened}
use Rattle.cm_disk.specs.Calls.{overwritten, IsTorn, IsCut, Passes, LooksOnce}
use Rattle.cm_guards.specs.Guards.{Guard, Guards, IsBounded, Keeps, EachImage, IsApart}
use Rattle.cm_guards.specs.Plans.{Write, written, CanWrite}
use Rattle.cm_guards.specs.Gates.{OneOf, Turns}
use Rattle.cm_guards.specs.Calls.{LeavesOnly, Reads}
use Rattle.cm_guards.specs.Stages.{Stage, CallsOnce, TakesCall, IsReady, StagesStand, leaves}
use Rattle.cm_guards.specs.Stages.{after_call}

-- ---- guards

-- while nothing that is guarded is unsynced, what holds of the contents holds of each image
abbrev pub GuardedHolds : (List ℕ → Type 0) → Type 0
GuardedHolds P =
    (g : Guard) (contents : List ℕ) (unsynced : Unsynced) → Guards g P
    → Keeps g contents unsynced → P contents → EachImage contents unsynced P

-- while a write apart from what is guarded runs, the fact holds of each image
abbrev pub HoldsDuringWrites : (List ℕ → Type 0) → Type 0
HoldsDuringWrites P =
    (g : Guard) (at n : ℕ) (contents : List ℕ) (unsynced : Unsynced) → Guards g P
    → Keeps g contents unsynced → IsApart g at n → P contents
    → EachImage contents (widened at n unsynced) P

-- what such a write leaves, whether it succeeded or failed
pub record Stays (g : Guard) (P : List ℕ → Type 0) (contents : List ℕ)
    (unsynced : Unsynced) : Type 0 where
  pub keeps : Keeps g contents unsynced
  pub holds : P contents

abbrev pub HoldsAfterWrites : (List ℕ → Type 0) → Type 0
HoldsAfterWrites P =
    (g : Guard) (at n : ℕ) (old new : List ℕ) (before after : Unsynced) → Guards g P
    → Keeps g old before → IsApart g at n → P old → IsTorn at n old new
    → IsWithin (widened at n before) after → Stays g P new after

-- the same for a cut after what is guarded
abbrev pub HoldsDuringCuts : (List ℕ → Type 0) → Type 0
HoldsDuringCuts P =
    (g : Guard) (len : ℕ) (contents : List ℕ) (unsynced : Unsynced) → Guards g P
    → Keeps g contents unsynced → g.needs ≤ len → P contents
    → EachImage contents (shortened len unsynced) P

abbrev pub HoldsAfterCuts : (List ℕ → Type 0) → Type 0
HoldsAfterCuts P =
    (g : Guard) (len : ℕ) (old new : List ℕ) (before after : Unsynced) → Guards g P
    → Keeps g old before → g.needs ≤ len → P old → IsCut len old new
    → IsWithin (shortened len before) after → Stays g P new after

-- ---- a sync

-- if everything is durable, what holds of the contents holds of each image
abbrev pub DurableHolds : (List ℕ → Type 0) → Type 0
DurableHolds P =
    (contents : List ℕ) (unsynced : Unsynced) → IsDurable contents unsynced → P contents
    → EachImage contents unsynced P

abbrev pub DurableKeeps : Type 0
DurableKeeps =
    (g : Guard) (contents : List ℕ) (unsynced : Unsynced) → IsBounded g
    → g.needs ≤ length contents → IsDurable contents unsynced → Keeps g contents unsynced

-- ---- plans

-- once the first of the writes is made, the others are left, and give the same contents
pub record LeavesWrites (g : Guard) (w : Write) (writes : List Write) (old new : List ℕ) : Type 0
  where
    pub can : CanWrite g writes (length new)
    pub same : written (w ∷ writes) old ≡ written writes new

abbrev pub PlansGoOn : Type 0
PlansGoOn =
    (g : Guard) (w : Write) (writes : List Write) (old new : List ℕ)
    → CanWrite g (w ∷ writes) (length old) → new ≡ overwritten w.at w.bytes old
    → LeavesWrites g w writes old new

-- once all writes are made, a guarded fact still holds
abbrev pub PlansKeep : (List ℕ → Type 0) → Type 0
PlansKeep P =
    (g : Guard) (writes : List Write) (contents : List ℕ) → Guards g P → g.needs ≤ length contents
    → CanWrite g writes (length contents) → P contents → P (written writes contents)

-- ---- gates

-- while a gate's byte is written, if everything was durable, one fact or the other holds of each
-- image
abbrev pub TurnsDuring : (List ℕ → Type 0) → (List ℕ → Type 0) → Type 0
TurnsDuring P Q =
    (gate byte : ℕ) (base : List ℕ) (unsynced : Unsynced) → Turns P Q gate byte base
    → IsDurable base unsynced → EachImage base (widened gate 1 unsynced) (OneOf P Q)

-- the same holds from then on until a sync, whether the write succeeded or failed
abbrev pub TurnsAfter : (List ℕ → Type 0) → (List ℕ → Type 0) → Type 0
TurnsAfter P Q =
    (gate byte : ℕ) (base now : List ℕ) (before after : Unsynced) → Turns P Q gate byte base
    → IsDurable base before → IsTorn gate 1 base now → IsWithin (widened gate 1 before) after
    → EachImage now after (OneOf P Q)

-- once the byte is written, the second fact holds of the contents
abbrev pub TurnsContents : (List ℕ → Type 0) → (List ℕ → Type 0) → Type 0
TurnsContents P Q =
    (gate byte : ℕ) (base now : List ℕ) → Turns P Q gate byte base
    → now ≡ overwritten gate (byte ∷ []) base → Q now

-- ---- stages from the fact P to the fact Q, and to contents of some length

-- if everything is durable, ready stages stand
abbrev pub ReadyStagesStand : (List ℕ → Type 0) → (List ℕ → Type 0) → Type 0
ReadyStagesStand P Q =
    (long : ℕ) (left : List Stage) (contents : List ℕ) (unsynced : Unsynced)
    → IsDurable contents unsynced → IsReady P Q long left contents
    → StagesStand P Q long left contents unsynced

-- while they stand, a disk accepts their next call, and a crash leaves P, or at the last gate P or
-- Q
abbrev pub StagesTakeCalls : (List ℕ → Type 0) → (List ℕ → Type 0) → Type 0
StagesTakeCalls P Q =
    (long : ℕ) (left : List Stage) (contents : List ℕ) (unsynced : Unsynced)
    → IsSound contents unsynced → (left ≡ [] → ⊥) → StagesStand P Q long left contents unsynced
    → TakesCall left (length contents)

abbrev pub StagesLeave : (List ℕ → Type 0) → (List ℕ → Type 0) → Type 0
StagesLeave P Q =
    (long : ℕ) (left : List Stage) (contents : List ℕ) (unsynced : Unsynced)
    → (left ≡ [] → ⊥) → StagesStand P Q long left contents unsynced
    → EachImage contents unsynced (leaves left P Q)

-- one call: if it succeeds, the stages after it stand; if it fails, a crash leaves what it could
-- leave before; and the same at each moment of the call
pub record CallGoesOn {D : Type 0} (view : View D) (P Q : List ℕ → Type 0) (long : ℕ)
    (left : List Stage) (old new : D) (result : Result (Unit {0}) DeviceFault) : Type 0 where
  pub done : OnOk result (StagesStand P Q long (after_call left) (view.contents new)
      (view.unsynced new))
  pub failed : OnErr result (EachImage (view.contents new) (view.unsynced new) (leaves left P Q))
  pub moments : LeavesOnly view old new (leaves left P Q)

abbrev pub CallsGoOn : {D : Type 0} → View D → (List ℕ → Type 0) → (List ℕ → Type 0) → Type 0
CallsGoOn {D} view P Q =
    (long : ℕ) (left : List Stage) (old new : D) (result : Result (Unit {0}) DeviceFault)
    → StagesStand P Q long left (view.contents old) (view.unsynced old)
    → CallsOnce view left old new result
    → CallGoesOn view P Q long left old new result

-- ---- runs of calls; the moment, and what a crash may have left since one, are those of a disk

abbrev pub RunsJoin : {D : Type 0} → View D → (List ℕ → Type 0)
    → Type 0
RunsJoin {D} view P =
    (a b c : D) → LeavesOnly view a b P → LeavesOnly view b c P
    → LeavesOnly view a c P

-- a call leaves what holds of each image at its beginning, and of each while it runs
abbrev pub CallsLeave : {D : Type 0} → View D → (List ℕ → Type 0) → Type 0
CallsLeave {D} view P =
    (old new : D) (during : Unsynced)
    → Passes view old new
    (IsImage (view.contents old) during)
    → EachImage (view.contents old) (view.unsynced old) P → EachImage (view.contents old) during P
    → LeavesOnly view old new P

-- two runs of reads are one, which faults if one of them does
abbrev pub ReadsJoin : {D : Type 0} → View D → Type 0
ReadsJoin {D} view =
    (a b c : D) (r s : Result (Unit {0}) DeviceFault)
    → Reads view a b (IsErr r)
    → Reads view b c (IsErr s)
    → Reads view a c (IsErr r ⊎ IsErr s)

-- one read is a run
abbrev pub ReadIsRun : {D : Type 0} → View D → Type 0
ReadIsRun {D} view =
    (old new : D) (r : Result (Unit {0}) DeviceFault) → LooksOnce view old new r
    → Reads view old new (IsErr r)
