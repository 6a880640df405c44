-- What a reply says about the calls of the disk.
-- For `replies_tell_of_calls`.
use Rattle.std.proofs.Common.{◌≡◌, ◌+◌, ℕ, List, Bool, true, false, Option, Some, None}
use Rattle.std.proofs.Common.{Result, Ok, Err, refl, ap, ◌∙◌, arith}
use Rattle.std.specs.Prelude.{◌||◌, not, is_some}
use Rattle.std.specs.declared.alloc.AllocError.{AllocError}
use Rattle.cm_pool.specs.Geometry.{Sizes}
use Rattle.cm_disk.specs.declared.sim.SimDisk.{SimDisk}
use Rattle.cm_disk.specs.Sim.{sim_calls, sim_armed, sim_refused, sim_called}
use Rattle.cm_commands.specs.declared.refusal.Refusal.{Refusal}
use Rattle.cm_commit.specs.declared.progress.Progress.{Progress}
use Rattle.cm_commit.specs.declared.progress.Progress.TheVariants as progress
use Rattle.cm_commit.specs.declared.progress.AdvanceFault.{AdvanceFault}
use Rattle.cm_commit.specs.declared.progress.AdvanceFault.TheVariants as fault
use Rattle.cm_commit.specs.declared.progress.NotIdle.{NotIdle}
use Rattle.cm_commit.specs.Advances.{CallsDevice}
use Rattle.cm_session.specs.declared.session.Sealed.{Sealed}
use Rattle.cm_world.specs.declared.event.Event.{Event}
use Rattle.cm_world.specs.declared.event.Event.TheVariants as event
use Rattle.cm_world.specs.declared.reply.Reply.{Reply}
use Rattle.cm_world.specs.declared.reply.Reply.TheVariants as reply
use Rattle.cm_world.specs.Steps.{State, Does, command_reply, seal_reply, advance_reply, trim_reply}
use Rattle.cm_world.specs.Steps.{FindsSame, Trims}
use Rattle.cm_world.specs.Laws.{keeps_open, calls_told}

-- ---- replies that report none

command_told : (x : Result ℕ Refusal) → calls_told (command_reply x) ≡ 0
command_told (Ok n) = refl
command_told (Err r) = refl

seal_told : (x : Result (Option Sealed) AllocError) → calls_told (seal_reply x) ≡ 0
seal_told (Ok None) = refl
seal_told (Ok (Some group)) = refl
seal_told (Err e) = refl

trim_told : {E : Type 0} (x : Result Bool E) → calls_told (trim_reply x) ≡ 0
trim_told (Ok true) = refl
trim_told (Ok false) = refl
trim_told (Err e) = refl

trim_disk : (sizes : Sizes) (before after : State) (x : Result Bool NotIdle)
    → Trims sizes before x after → after.disk ≡ before.disk
trim_disk sizes before after (Ok due) t = ap (λ (s : State). s.disk) t.4
trim_disk sizes before after (Err busy) t = ap (λ (s : State). s.disk) t.1

look_told : (words : Option (List ℕ)) (r : Reply) → FindsSame words r → calls_told r ≡ 0
look_told words (reply.Accepted n) p = refl
look_told words (reply.Refused x) p = refl
look_told words (reply.Sealed group) p = refl
look_told words reply.NothingToSeal p = refl
look_told words reply.NoMemory p = refl
look_told words reply.Idle p = refl
look_told words reply.Working p = absurd p
look_told words (reply.Done n) p = absurd p
look_told words (reply.Trimmed n) p = absurd p
look_told words reply.TrimDue p = refl
look_told words reply.NothingToTrim p = refl
look_told words reply.NotIdle p = refl
look_told words reply.DeviceFailed p = absurd p
look_told words reply.Broken p = refl
look_told words (reply.Learnt n) p = refl
look_told words (reply.Found found) p = refl
look_told words reply.Armed p = refl
look_told words (reply.Opened n) p = refl

-- the count stays
none_made : (r : Reply) (old new : SimDisk) → sim_calls new ≡ sim_calls old → calls_told r ≡ 0
    → sim_calls new ≡ sim_calls old + calls_told r
none_made r old new same none = omega (arith, same, none)

-- ---- those to a device step

steps_told : (old new : SimDisk) (x : Result Progress AdvanceFault)
    → CallsDevice sim_called old x new
    → sim_calls new ≡ sim_calls old + calls_told (advance_reply x)
steps_told old new (Ok progress.Idle) same = none_made reply.Idle old new (ap sim_calls same) refl
steps_told old new (Ok progress.Working) call = call.once
steps_told old new (Ok (progress.Done receipt)) call = call.once
steps_told old new (Ok (progress.Trimmed roots)) call = call.once
steps_told old new (Err fault.Device) call = call.once
steps_told old new (Err fault.Broken) same =
    none_made reply.Broken old new (ap sim_calls same) refl

passed : (armed refused : Bool) → armed ≡ true → true ≡ not (armed || refused) → ⊥
passed true refused armed is = cc
passed false refused armed is = cc

pub strikes : (old new : SimDisk) (x : Result Progress AdvanceFault)
    → CallsDevice sim_called old x new → is_some (sim_armed old) ≡ true
    → calls_told (advance_reply x) ≡ 1 → advance_reply x ≡ reply.DeviceFailed
strikes old new (Ok progress.Idle) call armed one = absurd (omega (arith, one))
strikes old new (Ok progress.Working) call armed one =
    absurd (passed (is_some (sim_armed old)) (sim_refused new) armed call.exactly)
strikes old new (Ok (progress.Done receipt)) call armed one =
    absurd (passed (is_some (sim_armed old)) (sim_refused new) armed call.exactly)
strikes old new (Ok (progress.Trimmed roots)) call armed one =
    absurd (passed (is_some (sim_armed old)) (sim_refused new) armed call.exactly)
strikes old new (Err fault.Device) call armed one = refl
strikes old new (Err fault.Broken) call armed one = absurd (omega (arith, one))

failed : (b : Bool) → false ≡ not b → b ≡ true
failed true is = refl
failed false is = cc

pub has_cause : (old new : SimDisk) (x : Result Progress AdvanceFault)
    → CallsDevice sim_called old x new → reply.DeviceFailed ≡ advance_reply x
    → (is_some (sim_armed old) || sim_refused new) ≡ true
has_cause old new (Ok progress.Idle) call is = cc
has_cause old new (Ok progress.Working) call is = cc
has_cause old new (Ok (progress.Done receipt)) call is = cc
has_cause old new (Ok (progress.Trimmed roots)) call is = cc
has_cause old new (Err fault.Device) call is =
    failed (is_some (sim_armed old) || sim_refused new) call.exactly
has_cause old new (Err fault.Broken) call is = cc

-- ---- any event that keeps the file open

pub told : (sizes : Sizes) (e : Event) (r : Reply) (begun : SimDisk) (before after : State)
    → keeps_open e ≡ true → Does sizes e r begun before after
    → sim_calls after.disk ≡ sim_calls before.disk + calls_told r
told sizes (event.Accept command) r begun before after keeps d =
    none_made r before.disk after.disk (ap sim_calls d.disk_stays)
    (ap calls_told d.reply_is ∙ command_told d.result)
told sizes event.Seal r begun before after keeps d =
    none_made r before.disk after.disk (ap sim_calls d.disk_stays)
    (ap calls_told d.reply_is ∙ seal_told d.result)
told sizes event.Advance r begun before after keeps d =
    rw d.reply_is (steps_told before.disk after.disk d.result d.call)
told sizes event.Trim r begun before after keeps d =
    none_made r before.disk after.disk
    (ap sim_calls (trim_disk sizes before after d.result d.trims))
    (ap calls_told d.reply_is ∙ trim_told d.result)
told sizes event.Learn r begun before after keeps d =
    none_made r before.disk after.disk (ap sim_calls d.disk_stays) (ap calls_told d.reply_is)
told sizes (event.Look loader class) r begun before after keeps d =
    none_made r before.disk after.disk (ap (λ (s : State). sim_calls s.disk) d.stays)
    (look_told d.words r d.reply_is)
told sizes (event.Fault stores) r begun before after keeps d =
    none_made r before.disk after.disk (ap sim_calls d.disk_is) (ap calls_told d.reply_is)
told sizes event.Reopen r begun before after keeps d = cc
told sizes (event.Crash choice) r begun before after keeps d = cc
