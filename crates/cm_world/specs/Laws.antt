-- What the replies to events that keep the file open say about the calls of the world's disk.
use Rattle.std.specs.Prelude.{◌≡◌, ◌+◌, ◌||◌, ℕ, Bool, true, false, is_some}
use Rattle.cm_pool.specs.Geometry.{Sizes}
use Rattle.cm_disk.specs.Sim.{sim_calls, sim_armed, sim_refused}
use Rattle.cm_world.specs.declared.event.Event.{Event}
use Rattle.cm_world.specs.declared.event.Event.TheVariants as event
use Rattle.cm_world.specs.declared.reply.Reply.{Reply}
use Rattle.cm_world.specs.declared.reply.Reply.TheVariants as reply
use Rattle.cm_world.specs.Steps.{State, IsStep}

abbrev pub keeps_open : Event → Bool
keeps_open event.Reopen = false
keeps_open (event.Crash choice) = false
keeps_open other = true

-- how many device calls a reply reports
abbrev pub calls_told : Reply → ℕ
calls_told reply.Working = 1
calls_told (reply.Done number) = 1
calls_told (reply.Trimmed roots) = 1
calls_told reply.DeviceFailed = 1
calls_told other = 0

-- As many device calls are made as the reply reports, one or none.
abbrev pub CallsAreTold : Type 0
CallsAreTold =
    (sizes : Sizes) (e : Event) (r : Reply) (before after : State) → keeps_open e ≡ true
    → IsStep sizes e r before after
    → sim_calls after.disk ≡ sim_calls before.disk + calls_told r

-- If a fault is armed, the call that is made fails.
abbrev pub FaultsStrike : Type 0
FaultsStrike =
    (sizes : Sizes) (r : Reply) (before after : State) → IsStep sizes event.Advance r before after
    → is_some (sim_armed before.disk) ≡ true → calls_told r ≡ 1 → r ≡ reply.DeviceFailed

-- A call fails only if a fault was armed or an allocation failed in it.
abbrev pub FailuresHaveCause : Type 0
FailuresHaveCause =
    (sizes : Sizes) (before after : State)
    → IsStep sizes event.Advance reply.DeviceFailed before after
    → (is_some (sim_armed before.disk) || sim_refused after.disk) ≡ true
