-- What a run of a script takes from its reader and gives to its writer, if their bytes are known.
use Rattle.std.specs.Prelude.{◌≡◌, ◌⊎◌, ℕ, ◌++◌, false, List, [], ◌∷◌, Option, Some, None}
use Rattle.std.specs.Prelude.{IfSome, Result, Ok, Err}
use Rattle.std.specs.List.{list_any}
use Rattle.std.specs.Io.KnownBytes.{Appends, Keeps}
use Rattle.cm_pool.specs.Geometry.{Sizes}
use Rattle.cm_session.specs.Storing.{IsAtRest}
use Rattle.cm_lines.specs.declared.fault.LineFault.{LineFault}
use Rattle.cm_lines.specs.declared.fault.LineFault.TheVariants as fault
use Rattle.cm_lines.specs.Lines.{lines_of}
use Rattle.cm_lines.specs.Streams.{Io, TakesLines, HasNoLine, ScriptBegins, WritesPart}
use Rattle.cm_tool.specs.declared.reply.ReplyKind.{ReplyKind}
use Rattle.cm_tool.specs.Texts.{ReplyText}
use Rattle.cm_tool.specs.Replies.{is_refused, is_unsure, reply_line, reply_lines}
use Rattle.cm_tool.specs.declared.script.Outcome.{Outcome}
use Rattle.cm_tool.specs.Answers.{Served, AnswersLine, Pause, StandsBetween}
use Rattle.cm_tool.specs.Answers.{AnswersEach, AnswersAll}

-- ---- one line

-- a line was read and run, and its reply written
pub record Turned (sizes : Sizes) (rest : Option (List ℕ)) (io : Io) (k : ReplyKind)
    (old new : Served)
    : Type 0 where
  pub line : List ℕ
  pub given : ReplyText
  pub taken : TakesLines io.script rest (line ∷ [])
  pub answer : AnswersLine sizes line old given new
  pub kind : k ≡ given.kind
  pub written : Appends io.before io.after (reply_line given)
  pub rest_is : IsAtRest new.machine
  pub works : is_unsure given.kind ≡ false → new.machine.failed ≡ false

pub record HasEnded {D : Type 0} (io : Io) (old new : Pause D) : Type 0 where
  pub none : HasNoLine io.script
  pub same : new ≡ old
  pub nothing : Keeps io.before io.after

-- the next line was run, and a part of its reply was written, or nothing
pub record BreaksIn (sizes : Sizes) (io : Io) (old new : Served) : Type 0 where
  pub line : List ℕ
  pub given : ReplyText
  pub next : ScriptBegins io.script (line ∷ [])
  pub answer : AnswersLine sizes line old given new
  pub written : WritesPart io.before io.after (reply_line given)

-- nothing was run, and nothing was written
pub record BreaksBefore (io : Io) (old new : Served) : Type 0 where
  pub same : new ≡ old
  pub nothing : Keeps io.before io.after

-- A failing reader breaks before a line, a failing writer in one. A failed allocation breaks before
-- it, or in it with nothing of its reply written.
abbrev pub RunBreaks : Sizes → LineFault → Io → Served → Served → Type 0
RunBreaks sizes fault.Input io old new = BreaksBefore io old new
RunBreaks sizes fault.Output io old new = BreaksIn sizes io old new
RunBreaks sizes fault.NoMemory io old new =
    BreaksBefore io old new ⊎ ((b : BreaksIn sizes io old new) × (b.written.part ≡ []))

-- `rest` is what the reader gives after the line
abbrev pub TakesTurn : {D : Type 0} → Sizes → Option (List ℕ) → Io
    → Result (Option ReplyKind) LineFault
    → Pause D → Pause D → Type 0
TakesTurn sizes rest io (Ok (Some k)) old new = Turned sizes rest io k old.served new.served
TakesTurn sizes rest io (Ok None) old new = HasEnded io old new
TakesTurn sizes rest io (Err e) old new = RunBreaks sizes e io old.served new.served

-- ---- a whole script

-- If the reader's bytes are known, the lines are those of that script; the replies are those to
-- these lines, and they are what is written. The outcome says whether some reply is a refusal, and
-- whether one is unsure. All commands with the reply `ok` are acknowledged.
pub record IsAnswered {D : Type 0} (Leaves : D → D → (List ℕ → Type 0) → Type 0) (sizes : Sizes)
    (io : Io) (outcome : Outcome) (old new : Pause D) : Type 0 where
  pub lines : List (List ℕ)
  pub lines_are : IfSome io.script (λ script. lines ≡ lines_of script)
  pub replies : List ReplyText
  pub answers : AnswersAll Leaves sizes lines old replies new
  pub written : Appends io.before io.after (reply_lines replies)
  pub refused : outcome.refused ≡ list_any (λ given. is_refused given.kind) replies
  pub unsure : outcome.unsure ≡ list_any (λ given. is_unsure given.kind) replies
  pub rest : IsAtRest new.served.machine

-- nothing more was run, and nothing more is written
pub record EndsBefore (io : Io) (replies : List ReplyText) (between new : Served) : Type 0 where
  pub same : new ≡ between
  pub written : Appends io.before io.after (reply_lines replies)

-- the next line was run too, and a part of its reply is written, or none of it
pub record EndsIn (sizes : Sizes) (io : Io) (lines : List (List ℕ)) (replies : List ReplyText)
    (between new : Served) : Type 0 where
  pub line : List ℕ
  pub begins : ScriptBegins io.script (lines ++ line ∷ [])
  pub given : ReplyText
  pub answer : AnswersLine sizes line between given new
  pub part : List ℕ
  pub rest : List ℕ
  pub whole : reply_line given ≡ part ++ rest
  pub written : Appends io.before io.after (reply_lines replies ++ part)

abbrev pub Ends : Sizes → LineFault → Io → List (List ℕ) → List ReplyText → Served → Served → Type 0
Ends sizes fault.Input io lines replies between new = EndsBefore io replies between new
Ends sizes fault.Output io lines replies between new = EndsIn sizes io lines replies between new
Ends sizes fault.NoMemory io lines replies between new =
    EndsBefore io replies between new
    ⊎ ((e : EndsIn sizes io lines replies between new) × (e.part ≡ []))

-- The script's first lines were run, the reply to each is written, and none is unsure. Then the run
-- broke: by a failing reader before the next line was run, by a failing writer in it, and by a
-- failed allocation before it, or in it with nothing of its reply written. In this line as in the
-- others, at each moment a crash left what stands for all that was acknowledged before.
pub record EndsEarly {D : Type 0} (Leaves : D → D → (List ℕ → Type 0) → Type 0) (sizes : Sizes)
    (io : Io) (e : LineFault) (old new : Pause D) : Type 0 where
  pub lines : List (List ℕ)
  pub begins : ScriptBegins io.script lines
  pub replies : List ReplyText
  pub between : Pause D
  pub answered : AnswersEach Leaves sizes lines old replies between
  pub ends : Ends sizes e io lines replies between.served new.served
  pub moments : Leaves between.disk new.disk
      (StandsBetween sizes between.served.machine new.served.machine)

abbrev pub IsRun : {D : Type 0} → (D → D → (List ℕ → Type 0) → Type 0) → Sizes → Io
    → Result Outcome LineFault → Pause D → Pause D → Type 0
IsRun Leaves sizes io (Ok outcome) old new = IsAnswered Leaves sizes io outcome old new
IsRun Leaves sizes io (Err e) old new = EndsEarly Leaves sizes io e old new
