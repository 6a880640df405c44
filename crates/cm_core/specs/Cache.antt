-- What is asked of a cache for C, and what C is told.
use Rattle.std.specs.Prelude.{◌≡◌, ℕ, ℤ, pos, Bool, true, false, List, Option, Some, None}
use Rattle.std.specs.Prelude.{Result, Ok, Err, IsSome, IsNone, ◌+◌, length}
use Rattle.std.specs.Arc.{arc_value}
use Rattle.cm_disk.specs.declared.disk.DeviceFault.{DeviceFault}
use Rattle.cm_device_disk.specs.DeviceDisk.{disk_view, IsDeviceCall}
use Rattle.cm_layout.specs.Rows.{slots_of_rows}
use Rattle.cm_deferred_disk.specs.Last.{Notes}
use Rattle.cm_state.specs.Step.{Change}
use Rattle.cm_commands.specs.Machine.{Machine}
use Rattle.cm_commands.specs.declared.refusal.Refusal.{Refusal}
use Rattle.cm_commands.specs.declared.refusal.Refusal.TheVariants as refusal
use Rattle.cm_commands.specs.declared.prepared.Prepared.{Prepared as Ready}
use Rattle.cm_handover.specs.Laws.{Finds}
use Rattle.cm_session.specs.Moves.{Accepting, ReachesMachine}
use Rattle.cm_stepped.specs.declared.stepped.SteppedSession.{SteppedSession}
use Rattle.cm_stepped.specs.declared.call_list.CallList.{CallList}
use Rattle.cm_stepped.specs.declared.step.Step.{Step}
use Rattle.cm_stepped.specs.declared.step.Broken.{Broken}
use Rattle.cm_stepped.specs.CallList.{next_call}
use Rattle.cm_stepped.specs.Stepping.{SteppedMatches, Steps}
use Rattle.cm_core.specs.declared.cache.Stats.{Stats}
use Rattle.cm_core.specs.declared.inner.Inner.{Inner}
use Rattle.cm_core.specs.declared.inner.Inner.TheVariants.{Cache, Calls, Prepared, Record, Names}
use Rattle.cm_core.specs.Calls.{DeferredDisk}
use Rattle.cm_core.specs.Status.{accept_status, number_told, step_status, stored_told}

-- ---- a command

-- A cache accepts a command, or refuses it, and C is told which.
pub record Accepts (asked : Change (List ℕ)) (old new : SteppedSession DeferredDisk) (status : ℤ)
    (before after : ℕ) : Type 0 where
  pub answer : Result ℕ Refusal
  pub machine : (k : Machine) → SteppedMatches k old → old.is_broken ≡ false
      → Accepting old.session.committer.sizes k asked answer (λ next. SteppedMatches next new)
  pub broken : old.is_broken ≡ true → (answer ≡ Err refusal.Broken) × (new ≡ old)
  pub status_is : status ≡ accept_status answer
  pub number : after ≡ number_told before answer

-- the same of what a handle leads to: only a cache takes a command
abbrev pub Changes : Change (List ℕ) → Inner → Inner → ℤ → ℕ → ℕ → Type 0
Changes asked (Cache old) new status before after =
    (c : SteppedSession DeferredDisk) × (new ≡ Cache c) × Accepts asked old c status before after
Changes asked (Calls calls) new status before after =
    (new ≡ Calls calls) × (status ≡ pos 25) × (after ≡ before)
Changes asked (Prepared ready) new status before after =
    (new ≡ Prepared ready) × (status ≡ pos 25) × (after ≡ before)
Changes asked (Record share) new status before after =
    (new ≡ Record share) × (status ≡ pos 25) × (after ≡ before)
Changes asked (Names names) new status before after =
    (new ≡ Names names) × (status ≡ pos 25) × (after ≡ before)

-- ---- a step

-- A cache makes a step, and C is told up to which number commands are stored.
pub record StepsCache (made : Bool) (old new : SteppedSession DeferredDisk) (status : ℤ)
    (before after : ℕ) : Type 0 where
  pub answer : Result Step Broken
  pub machine : (k : Machine) → SteppedMatches k old → old.is_broken ≡ false
      → (IsSome old.asked → made ≡ true)
      → ReachesMachine (Steps disk_view (IsDeviceCall Notes) k old answer new)
      (λ next. SteppedMatches next new)
  pub status_is : status ≡ step_status answer
  pub stored : after ≡ stored_told before answer

-- The next of the calls is to be made, unless one wasn't.
pub record StepsCalls (made : Bool) (old new : CallList) (status : ℤ) : Type 0 where
  pub broken : old.is_broken ≡ true → (status ≡ pos 10) × (new ≡ old)
  pub lost : IsSome (next_call old) → made ≡ false
      → (status ≡ pos 10) × (new ≡ record old { is_broken = true })
  pub made_it : IsSome (next_call old) → made ≡ true
      → (status ≡ pos 0) × (new ≡ record old { made = old.made + 1 })
  pub done : old.is_broken ≡ false → IsNone (next_call old) → (status ≡ pos 0) × (new ≡ old)

abbrev pub StepsInner : Bool → Inner → Inner → ℤ → ℕ → ℕ → Type 0
StepsInner made (Cache old) new status before after =
    (c : SteppedSession DeferredDisk) × (new ≡ Cache c) × StepsCache made old c status before after
StepsInner made (Calls old) new status before after =
    (c : CallList) × (new ≡ Calls c) × StepsCalls made old c status × (after ≡ before)
StepsInner made (Prepared ready) new status before after =
    (new ≡ Prepared ready) × (status ≡ pos 25) × (after ≡ before)
StepsInner made (Record share) new status before after =
    (new ≡ Record share) × (status ≡ pos 25) × (after ≡ before)
StepsInner made (Names names) new status before after =
    (new ≡ Names names) × (status ≡ pos 25) × (after ≡ before)

-- ---- shares

abbrev pub class_in : Inner → Option Ready
class_in (Cache cache) = None
class_in (Calls calls) = None
class_in (Prepared ready) = Some ready
class_in (Record share) = None
class_in (Names names) = None

-- the words of the record
abbrev pub record_in : Inner → Option (List ℕ)
record_in (Cache cache) = None
record_in (Calls calls) = None
record_in (Prepared ready) = None
record_in (Record share) = Some (arc_value share)
record_in (Names names) = None

-- what a handle leads to isn't shared: for want of memory, or since it is something else
abbrev pub unshared : {T : Type 0} → Option T → ℤ
unshared None = pos 25
unshared (Some value) = pos 9

-- ---- a look-up

-- the words of the record that C is given a share of
abbrev pub words_given : {S : Type 0} → (S → List ℕ) → Result S ℤ → Result (List ℕ) ℤ
words_given words (Ok share) = Ok (words share)
words_given words (Err status) = Err status

-- what C is given of an answer: the record, or that memory is short, or that there is none
abbrev pub Given : Option (List ℕ) → Result (List ℕ) ℤ → Type 0
Given None (Ok words) = ⊥
Given None (Err status) = status ≡ pos 24
Given (Some found) (Ok words) = words ≡ found
Given (Some found) (Err status) = status ≡ pos 9

pub record LooksUp (cache : SteppedSession DeferredDisk) (loader class : List ℕ)
    (given : Result (List ℕ) ℤ) : Type 0 where
  pub answer : Option (List ℕ)
  pub finds : (k : Machine) → SteppedMatches k cache
      → Finds cache.session.committer.sizes k loader class answer
  pub given_is : Given answer given

abbrev pub LooksIn : Inner → List ℕ → List ℕ → Result (List ℕ) ℤ → Type 0
LooksIn (Cache cache) loader class given = LooksUp cache loader class given
LooksIn (Calls calls) loader class given = given ≡ Err (pos 25)
LooksIn (Prepared ready) loader class given = given ≡ Err (pos 25)
LooksIn (Record share) loader class given = given ≡ Err (pos 25)
LooksIn (Names names) loader class given = given ≡ Err (pos 25)

-- ---- statistics

abbrev pub stats_of : SteppedSession DeferredDisk → Stats
stats_of cache = record {
  accepted = cache.accepted;
  stored = cache.stored;
  top = cache.session.committer.sizes.top;
  roots = cache.session.committer.sizes.roots;
  slots = cache.session.committer.sizes.slots;
  live = length cache.session.front.rows;
  live_slots = slots_of_rows cache.session.front.rows;
}

abbrev pub TellsStats : Inner → ℤ → Stats → Stats → Type 0
TellsStats (Cache cache) status old new = (status ≡ pos 0) × (new ≡ stats_of cache)
TellsStats (Calls calls) status old new = (status ≡ pos 25) × (new ≡ old)
TellsStats (Prepared ready) status old new = (status ≡ pos 25) × (new ≡ old)
TellsStats (Record share) status old new = (status ≡ pos 25) × (new ≡ old)
TellsStats (Names names) status old new = (status ≡ pos 25) × (new ≡ old)
