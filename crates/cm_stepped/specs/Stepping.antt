-- What each call of a stepped session means for the machine, as its caller knows it.
use Rattle.std.specs.Prelude.{◌≡◌, ◌⊎◌, ℕ, Bool, true, false, Option, None, Some, Result, Ok, Err}
use Rattle.cm_disk.specs.Disk.{View}
use Rattle.cm_guards.specs.Calls.{LeavesOnly}
use Rattle.cm_commit.specs.declared.progress.Progress.{Progress}
use Rattle.cm_commit.specs.declared.progress.Progress.TheVariants.{Idle, Working, Done, Trimmed}
use Rattle.cm_commands.specs.Machine.{Machine, Seals, Acknowledges, accepted_to}
use Rattle.cm_session.specs.Images.{StandsForSome}
use Rattle.cm_session.specs.Moves.{SessionMatches, ReachesMachine, Advancing}
use Rattle.cm_stepped.specs.declared.stepped.SteppedSession.{SteppedSession}
use Rattle.cm_stepped.specs.declared.step.Step.{Step}
use Rattle.cm_stepped.specs.declared.step.Step.TheVariants.{Idle as IsIdle, Call, Stored}
use Rattle.cm_stepped.specs.declared.step.Broken.{Broken}

-- ---- what the caller knows

-- The session is ahead of the caller by the call that is asked for, if one is.
abbrev pub IsBehind : Machine → Option Progress → Machine → Type 0
IsBehind k None ahead = ahead ≡ k
IsBehind k (Some progress) ahead = Advancing k (Ok progress) ahead

-- The machine is the caller's: what was reported to the caller as stored is acknowledged in it.
pub record SteppedMatches {D : Type 0} (k : Machine) (s : SteppedSession D) : Type 0 where
  pub ahead : ReachesMachine (IsBehind k s.asked) (λ next. SessionMatches next s.session)
  pub stored : k.acknowledged ≡ s.stored
  pub accepted : accepted_to k ≡ s.accepted
  pub works : s.is_broken ≡ false → k.failed ≡ false

-- ---- handing out

-- All commands were handed out before, or a group of them is now.
abbrev pub HandsOut : Machine → Machine → Type 0
HandsOut k next =
    ((next ≡ k) × (k.sealed ≡ accepted_to k))
    ⊎ ((first : ℕ) × (last : ℕ) × Seals k first last next)

-- nothing is handed out, or a group is
abbrev pub MayHandOut : Machine → Machine → Type 0
MayHandOut k next = (next ≡ k) ⊎ ((first : ℕ) × (last : ℕ) × Seals k first last next)

-- ---- asking for a call

-- nothing was left to do
abbrev pub rests : Progress → Bool
rests Idle = true
rests Working = false
rests (Done receipt) = false
rests (Trimmed roots) = false

-- the call that is asked for is the last of a group
abbrev pub is_last : Option Progress → Bool
is_last None = false
is_last (Some Idle) = false
is_last (Some Working) = false
is_last (Some (Done receipt)) = true
is_last (Some (Trimmed roots)) = false

-- no call is asked for, and none was made
abbrev pub is_idle : Result Step Broken → Bool
is_idle (Ok IsIdle) = true
is_idle (Ok Call) = false
is_idle (Ok (Stored number)) = false
is_idle (Err broken) = false

-- The disk noted one more call. At each moment while it is made, a crash leaves what stands for
-- some
-- of the machine's commands: all that were acknowledged, and none that wasn't handed out.
pub record NotesCall {D : Type 0} (view : View D) (called : D → D → Bool → Type 0) (k : Machine)
    (old : SteppedSession D) (ok : Bool) (new : SteppedSession D) : Type 0 where
  pub call : called old.session.committer.disk new.session.committer.disk ok
  pub moments : LeavesOnly view old.session.committer.disk new.session.committer.disk
      (StandsForSome old.session.committer.sizes k)

-- nothing is asked for, and the disk is as it was
pub record AsksNone {D : Type 0} (old new : SteppedSession D) : Type 0 where
  pub asked : new.asked ≡ None
  pub works : new.is_broken ≡ false
  pub disk : new.session.committer.disk ≡ old.session.committer.disk
  pub sizes : new.session.committer.sizes ≡ old.session.committer.sizes

-- One call of the session: nothing is left to do, or a call is noted, or the disk refuses one.
abbrev pub Asks : {D : Type 0} → View D → (D → D → Bool → Type 0) → Machine → SteppedSession D
    → Result Step Broken → SteppedSession D → Machine → Type 0
Asks view called k old (Ok IsIdle) new next =
    (next ≡ k) × (k.acknowledged ≡ k.sealed) × AsksNone old new
Asks view called k old (Ok Call) new next =
    (next ≡ k) × NotesCall view called k old true new
Asks view called k old (Ok (Stored number)) new next = ⊥
Asks view called k old (Err broken) new next =
    (next ≡ record k { failed = true }) × NotesCall view called k old false new
    × (new.is_broken ≡ true)

-- The same, where a group is handed out first if nothing is left to do.
abbrev pub AsksNext : {D : Type 0} → View D → (D → D → Bool → Type 0) → Machine → SteppedSession D
    → Result Step Broken → SteppedSession D → Machine → Type 0
AsksNext view called k old (Ok IsIdle) new next =
    (next ≡ k) × (k.acknowledged ≡ accepted_to k) × AsksNone old new
AsksNext view called k old (Ok Call) new next =
    MayHandOut k next × NotesCall view called next old true new
AsksNext view called k old (Ok (Stored number)) new next = ⊥
AsksNext view called k old (Err broken) new next =
    (with_group : Machine) × MayHandOut k with_group
    × (next ≡ record with_group { failed = true })
    × NotesCall view called with_group old false new
    × (new.is_broken ≡ true)

-- ---- a call is made

-- The last call of a group acknowledges its commands; any other changes nothing.
abbrev pub Makes : Machine → Option Progress → Option ℕ → Machine → Type 0
Makes k None told next = (told ≡ None) × (next ≡ k)
Makes k (Some Idle) told next = (told ≡ None) × (next ≡ k)
Makes k (Some Working) told next = (told ≡ None) × (next ≡ k)
Makes k (Some (Done receipt)) told next =
    (told ≡ Some receipt.number) × Acknowledges k receipt.number next
Makes k (Some (Trimmed roots)) told next = (told ≡ None) × (next ≡ k)

-- ---- a step

-- A number is told if the call that was asked for was the last of a group, which ends with the
-- command of this number.
pub record Tells {D : Type 0} (k : Machine) (old : SteppedSession D) (number : ℕ)
    (new : SteppedSession D) (next : Machine) : Type 0 where
  pub asked : old.asked ≡ Some (Done (record { number = number }))
  pub acknowledges : Acknowledges k number next
  pub none : new.asked ≡ None
  pub works : new.is_broken ≡ false
  pub committer : new.session.committer ≡ old.session.committer

-- A step after the call that was asked for was made, or none was.
abbrev pub Steps : {D : Type 0} → View D → (D → D → Bool → Type 0) → Machine → SteppedSession D
    → Result Step Broken → SteppedSession D → Machine → Type 0
Steps view called k old (Ok (Stored number)) new next = Tells k old number new next
Steps view called k old (Ok IsIdle) new next = AsksNext view called k old (Ok IsIdle) new next
Steps view called k old (Ok Call) new next = AsksNext view called k old (Ok Call) new next
Steps view called k old (Err broken) new next = AsksNext view called k old (Err broken) new next
