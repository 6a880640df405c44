-- What the functions of a script do to the session that they run on.
use Rattle.std.specs.Prelude.{◌≡◌, ◌≤◌, ◌⊎◌, ℕ, false, List, take, Option, Result, Ok, Err, IfOk}
use Rattle.cm_pool.specs.Geometry.{Sizes}
use Rattle.cm_disk.specs.Disk.{View, Unsynced, IsImage}
use Rattle.cm_recover.specs.Opened.{IsOlderFile, LeavesSame}
use Rattle.cm_guards.specs.Guards.{EachImage}
use Rattle.cm_guards.specs.Calls.{LeavesOnly}
use Rattle.cm_state.specs.Step.{Change, AddLoader, Unload, Tighten, UnloadAll}
use Rattle.cm_commands.specs.Names.{names_kept}
use Rattle.cm_commands.specs.Machine.{Machine}
use Rattle.cm_session.specs.declared.session.Session.{Session}
use Rattle.cm_session.specs.declared.storing.NotStored.{NotStored}
use Rattle.cm_session.specs.Images.{StandsForSome}
use Rattle.cm_session.specs.Moves.{SessionMatches}
use Rattle.cm_session.specs.Storing.{IsAtRest, refusal_told}
use Rattle.cm_lines.specs.Lines.{Asked, AsksLoader, AsksUnload, AsksTighten, AsksDefine, AsksFind}
use Rattle.cm_lines.specs.Lines.{AsksUnloadAll}
use Rattle.cm_tool.specs.declared.reply.Reply.{Reply}
use Rattle.cm_tool.specs.Texts.{ReplyText, refusal_reply}
use Rattle.cm_tool.specs.Replies.{IsReply, is_unsure}
use Rattle.cm_tool.specs.Answers.{Served, served, AnswersAsked, Pause, pause, StandsBetween}

-- everything that was accepted is acknowledged, and the device works
pub record IsReady (k : Machine) : Type 0 where
  pub rest : IsAtRest k
  pub works : k.failed ≡ false

-- What is done leads the machine to another one, and the session matches that one.
pub record ReachesServed (Does : Served → Type 0) (failures : ℕ) (Matching : Machine
    → Type 0) : Type 0 where
  pub next : Machine
  pub does : Does (served next failures)
  pub matches : Matching next

-- This holds for whichever machine the session matches, if everything is stored and the device
-- works: what is done between the two pauses leads the machine to another one, and the session
-- continues with that one.
abbrev pub ServesFrom : {D : Type 0} → View D → (Pause D → Pause D → Type 0)
    → (Machine → Machine → Type 0) → Session D → Session D → Type 0
ServesFrom view Does MatchingFrom old new =
    (k : Machine) → SessionMatches k old → IsReady k
    → ReachesServed (λ next. Does
    (pause (served k (view.failures old.committer.disk)) old.committer.disk)
    (pause next new.committer.disk))
    (view.failures new.committer.disk) (MatchingFrom k)

-- The session matches the machine, and at each moment meanwhile a crash left what stands for all
-- that was acknowledged before, and for nothing that wasn't handed out by now.
pub record Progresses {D : Type 0} (view : View D)
    (k : Machine) (old new : Session D) (next : Machine) : Type 0 where
  pub matches : SessionMatches next new
  pub moments : LeavesOnly view old.committer.disk new.committer.disk
      (StandsBetween old.committer.sizes k next)

-- the same, if possibly the disk wasn't touched
pub record MayProgress {D : Type 0} (view : View D)
    (k : Machine) (old new : Session D) (next : Machine) : Type 0 where
  pub matches : SessionMatches next new
  pub no_less : k.acknowledged ≤ next.acknowledged
  pub moments : (new.committer.disk ≡ old.committer.disk)
      ⊎ LeavesOnly view old.committer.disk new.committer.disk
      (StandsBetween old.committer.sizes k next)

-- ---- replies

-- the change is what the line requests, and the reply is just its number
abbrev pub IsAskedBy : Asked → Change (List ℕ) → Type 0
IsAskedBy (AsksLoader name) change = change ≡ AddLoader name
IsAskedBy (AsksUnload name) change = change ≡ Unload name
IsAskedBy (AsksTighten name) change = change ≡ Tighten name
IsAskedBy (AsksUnloadAll names) change = change ≡ UnloadAll (take names_kept names)
IsAskedBy (AsksDefine loader digits) change = ⊥
IsAskedBy (AsksFind loader class) change = ⊥

-- all is durable again, and the device works unless the reply is unsure
pub record RestsAfter (given : ReplyText) (k : Machine) : Type 0 where
  pub rest : IsAtRest k
  pub works : is_unsure given.kind ≡ false → k.failed ≡ false

-- The reply is one to the request. If an allocation for it failed, the command has this result
-- nevertheless, or nothing was done.
abbrev pub Replies : {E : Type 0} → Sizes → Option Asked → Result Reply E → Served → Served → Type 0
Replies sizes request (Ok reply) old new =
    (given : ReplyText) × IsReply given reply × AnswersAsked sizes request old given new
    × RestsAfter given new.machine
Replies sizes request (Err e) old new =
    (new ≡ old) ⊎ ((given : ReplyText) × AnswersAsked sizes request old given new)

-- The request is served from any such machine: the result is the reply to it, or says that an
-- allocation for one failed, and the session continues with the machine that this leads to.
abbrev pub Serves : {D E : Type 0} → View D → Option Asked → Result Reply E → Session D → Session D
    → Type 0
Serves view request result old new =
    ServesFrom view
    (λ before now. Replies old.committer.sizes request result before.served now.served)
    (λ k. MayProgress view k old new) old new

-- the reply to a command that is stored, or isn't known to be
abbrev pub ReportsStored : {E : Type 0} → (ℕ → ReplyText) → Result ℕ NotStored → Result Reply E
    → Type 0
ReportsStored told (Ok number) result = IfOk result (IsReply (told number))
ReportsStored told (Err fault) result = IfOk result (IsReply (refusal_reply (refusal_told fault)))

-- ---- the disk that a run leaves

-- the bytes of a disk, what of them a crash may undo, and how often it failed
pub record Medium : Type 0 where
  pub bytes : List ℕ
  pub unsynced : Unsynced
  pub failures : ℕ

abbrev pub medium : {D : Type 0} → View D → D → Medium
medium view disk = record {
  bytes = view.contents disk;
  unsynced = view.unsynced disk;
  failures = view.failures disk;
}

-- While the cache is opened a crash leaves what it might have left before; or, if the file is of
-- version 1 and is upgraded, what stands for the same cache.
pub record LeavesOpening {D : Type 0} (Leaves : D → D → (List ℕ → Type 0) → Type 0)
    (begun opened : D) (disk : Medium) : Type 0 where
  pub alone : (IsOlderFile disk.bytes → ⊥)
      → Leaves begun opened (IsImage disk.bytes disk.unsynced)
  pub either : Leaves begun opened (LeavesSame disk.bytes disk.unsynced)

-- Whatever a crash leaves of the disk stands for all that was acknowledged, and nothing that
-- wasn't handed out.
pub record LeavesDisk (sizes : Sizes) (left : Medium) (new : Served) : Type 0 where
  pub failures_are : new.failures ≡ left.failures
  pub images : EachImage left.bytes left.unsynced (StandsForSome sizes new.machine)
