-- The replies of a cache to the lines of a script, one line after another, each by the state of the
-- abstract machine at that line.
use Rattle.std.specs.Prelude.{◌≡◌, ◌<◌, ◌≤◌, ◌⊎◌, ℕ, ◌++◌, true, false, List, [], ◌∷◌, length}
use Rattle.std.specs.Prelude.{take}
use Rattle.std.specs.Prelude.{Option, Some, None, Result, Ok, Err}
use Rattle.hex.specs.Hex.{decode_of}
use Rattle.hex.specs.declared.error.FromHexError.{FromHexError}
use Rattle.cm_class.specs.declared.class_file.ClassFile.{ClassFile}
use Rattle.cm_pool.specs.Geometry.{Sizes}
use Rattle.cm_record.specs.Layout.{lay, limit, IsRecordOf}
use Rattle.cm_record.specs.Names.{class_name_of}
use Rattle.cm_rules.specs.Answer.{SpellsRightClass}
use Rattle.cm_state.specs.Step.{Change, AddLoader, Define, Unload, Tighten, UnloadAll}
use Rattle.cm_commands.specs.declared.refusal.Refusal.{Refusal}
use Rattle.cm_commands.specs.Prepare.{IsRefusedBytes}
use Rattle.cm_commands.specs.Names.{names_kept}
use Rattle.cm_commands.specs.Machine.{Machine, Accepts, Refuses}
use Rattle.cm_handover.specs.Laws.{Finds}
use Rattle.cm_session.specs.Images.{StandsFor}
use Rattle.cm_lines.specs.Escapes.{unescaped}
use Rattle.cm_lines.specs.Lines.{Asked, AsksLoader, AsksUnload, AsksTighten, AsksDefine, AsksFind}
use Rattle.cm_lines.specs.Lines.{AsksUnloadAll, asked_by}
use Rattle.cm_tool.specs.Texts.{ReplyText, number_reply, defined_reply, none_reply, class_reply}
use Rattle.cm_tool.specs.Texts.{refusal_reply, unsure_reply, bad_line_reply}
use Rattle.cm_tool.specs.Replies.{is_unsure}

-- What a script runs on: the machine that the cache matches, and how often its disk has failed.
pub record Served : Type 0 where
  pub machine : Machine
  pub failures : ℕ

abbrev pub served : Machine → ℕ → Served
served machine failures = record { machine = machine; failures = failures }

-- ---- one command

-- The command is stored: accepted with the next number, handed out and acknowledged.
pub record IsDone (sizes : Sizes) (change : Change ClassFile) (told : ℕ → ReplyText) (old : Served)
    (given : ReplyText) (new : Served) : Type 0 where
  pub number : ℕ
  pub accepted : Machine
  pub accepts : Accepts sizes old.machine change number accepted
  pub reply : given ≡ told number
  pub machine_is : new.machine ≡ record accepted { sealed = number; acknowledged = number }
  pub failures : old.failures ≤ new.failures

-- The command is refused, for the first cause against it or for lack of room, and nothing is
-- changed.
pub record IsRefused (sizes : Sizes) (change : Change ClassFile) (old : Served) (given : ReplyText)
    (new : Served) : Type 0 where
  pub refusal : Refusal
  pub refuses : Refuses sizes old.machine change refusal
  pub reply : given ≡ refusal_reply refusal
  pub same : new ≡ old

-- The command was accepted with the next number, and the device failed before its receipt: the file
-- may or may not hold it, and no command is accepted any more.
pub record IsLost (sizes : Sizes) (change : Change ClassFile) (old : Served) (given : ReplyText)
    (new : Served) : Type 0 where
  pub number : ℕ
  pub accepted : Machine
  pub accepts : Accepts sizes old.machine change number accepted
  pub reply : given ≡ unsure_reply number
  pub machine_is : new.machine ≡ record accepted {
    sealed = number;
    failed = true;
    noticed = true;
  }
  pub failed : old.failures < new.failures

-- a command has this reply, which contains its number once it is done
abbrev pub AnswersCommand : Sizes → Change ClassFile → (ℕ → ReplyText) → Served → ReplyText → Served
    → Type 0
AnswersCommand sizes change told old given new =
    IsDone sizes change told old given new
    ⊎ (IsRefused sizes change old given new ⊎ IsLost sizes change old given new)

-- ---- one line

abbrev pub IsBadLine : Served → ReplyText → Served → Type 0
IsBadLine old given new = (given ≡ bad_line_reply) × (new ≡ old)

-- the bytes are no class that can be defined
pub record AnswersFault (bytes : List ℕ) (old : Served) (given : ReplyText) (new : Served)
    : Type 0 where
  pub refusal : Refusal
  pub refused : IsRefusedBytes bytes refusal
  pub reply : given ≡ refusal_reply refusal
  pub same : new ≡ old

-- the bytes are a class that keeps the rules, whose record is no longer than the limit
pub record AnswersClass (sizes : Sizes) (loader bytes : List ℕ) (old : Served) (given : ReplyText)
    (new : Served) : Type 0 where
  pub c : ClassFile
  pub right : SpellsRightClass bytes c
  pub short : length (lay c) ≤ limit
  pub answer : AnswersCommand sizes (Define loader c) (λ n. defined_reply n (class_name_of c)) old
      given new

-- the reply to a define, by the bytes that the digits stand for
abbrev pub AnswersDefine : Sizes → List ℕ → Result (List ℕ) FromHexError → Served → ReplyText
    → Served → Type 0
AnswersDefine sizes loader (Err e) old given new = IsBadLine old given new
AnswersDefine sizes loader (Ok bytes) old given new =
    AnswersFault bytes old given new ⊎ AnswersClass sizes loader bytes old given new

-- the reply for the words of the record that is found under the name
abbrev pub TellsClass : List ℕ → Option (List ℕ) → ReplyText → Type 0
TellsClass name None given = given ≡ none_reply
TellsClass name (Some words) given =
    (c : ClassFile) × IsRecordOf c words × (given ≡ class_reply name c (length words))

-- the reply says what the machine finds, and nothing is changed
pub record AnswersName (sizes : Sizes) (loader name : List ℕ) (old : Served) (given : ReplyText)
    (new : Served) : Type 0 where
  pub found : Option (List ℕ)
  pub finds : Finds sizes old.machine loader name found
  pub tells : TellsClass name found given
  pub same : new ≡ old

-- the reply to a find, by the name that the last word spells
abbrev pub AnswersFind : Sizes → List ℕ → Option (List ℕ) → Served → ReplyText → Served → Type 0
AnswersFind sizes loader None old given new = IsBadLine old given new
AnswersFind sizes loader (Some name) old given new = AnswersName sizes loader name old given new

abbrev pub AnswersAsked : Sizes → Option Asked → Served → ReplyText → Served → Type 0
AnswersAsked sizes None old given new = IsBadLine old given new
AnswersAsked sizes (Some (AsksLoader name)) old given new =
    AnswersCommand sizes (AddLoader name) number_reply old given new
AnswersAsked sizes (Some (AsksUnload name)) old given new =
    AnswersCommand sizes (Unload name) number_reply old given new
AnswersAsked sizes (Some (AsksTighten name)) old given new =
    AnswersCommand sizes (Tighten name) number_reply old given new
-- Of more than seven names the first eight are enough: these are refused as all of them would be.
AnswersAsked sizes (Some (AsksUnloadAll names)) old given new =
    AnswersCommand sizes (UnloadAll (take names_kept names)) number_reply old given new
AnswersAsked sizes (Some (AsksDefine loader digits)) old given new =
    AnswersDefine sizes loader (decode_of digits) old given new
AnswersAsked sizes (Some (AsksFind loader name)) old given new =
    AnswersFind sizes loader (unescaped name) old given new

-- a line that is too long is no request, whatever it says
abbrev pub AnswersLine : Sizes → List ℕ → Served → ReplyText → Served → Type 0
AnswersLine sizes line old given new = AnswersAsked sizes (asked_by line) old given new

-- ---- a script

-- the state of a script between two lines: what it runs on, and the disk
pub record Pause (D : Type 0) : Type 0 where
  pub served : Served
  pub disk : D

abbrev pub pause : {D : Type 0} → Served → D → Pause D
pause served disk = record { served = served; disk = disk }

-- The contents stand for the result of some number of the commands: all of them that were
-- acknowledged before, and none that wasn't handed out by now.
pub record StandsBetween (sizes : Sizes) (before now : Machine) (contents : List ℕ)
    : Type 0 where
  pub number : ℕ
  pub least : before.acknowledged ≤ number
  pub most : number ≤ now.sealed
  pub stands : StandsFor sizes now number contents

-- A line has its reply, and at each moment meanwhile a crash left what stands for all that was
-- acknowledged before it, and for nothing that wasn't handed out by its end. `Leaves` says what a
-- crash leaves between two disks.
pub record RunsLine {D : Type 0} (Leaves : D → D → (List ℕ → Type 0) → Type 0) (sizes : Sizes)
    (line : List ℕ) (old : Pause D) (given : ReplyText) (new : Pause D) : Type 0 where
  pub answer : AnswersLine sizes line old.served given new.served
  pub moments : Leaves old.disk new.disk
      (StandsBetween sizes old.served.machine new.served.machine)

-- one reply to each line, none of them unsure
abbrev pub AnswersEach : {D : Type 0} → (D → D → (List ℕ → Type 0) → Type 0) → Sizes
    → List (List ℕ) → Pause D → List ReplyText → Pause D → Type 0
AnswersEach Leaves sizes [] old [] new = new ≡ old
AnswersEach Leaves sizes [] old (given ∷ more) new = ⊥
AnswersEach Leaves sizes (line ∷ lines) old [] new = ⊥
AnswersEach {D = D} Leaves sizes (line ∷ lines) old (given ∷ more) new =
    (next : Pause D) × RunsLine Leaves sizes line old given next × (is_unsure given.kind ≡ false)
    × AnswersEach Leaves sizes lines next more new

-- the reply to some line is unsure, and nothing follows it
pub record EndsUnsure {D : Type 0} (Leaves : D → D → (List ℕ → Type 0) → Type 0) (sizes : Sizes)
    (lines : List (List ℕ)) (old : Pause D) (replies : List ReplyText) (new : Pause D)
    : Type 0 where
  pub before : List (List ℕ)
  pub line : List ℕ
  pub behind : List (List ℕ)
  pub lines_are : lines ≡ before ++ line ∷ behind
  pub earlier : List ReplyText
  pub last : ReplyText
  pub replies_are : replies ≡ earlier ++ last ∷ []
  pub between : Pause D
  pub answered : AnswersEach Leaves sizes before old earlier between
  pub runs : RunsLine Leaves sizes line between last new
  pub unsure : is_unsure last.kind ≡ true

abbrev pub AnswersAll : {D : Type 0} → (D → D → (List ℕ → Type 0) → Type 0) → Sizes
    → List (List ℕ) → Pause D → List ReplyText → Pause D → Type 0
AnswersAll Leaves sizes lines old replies new =
    AnswersEach Leaves sizes lines old replies new
    ⊎ EndsUnsure Leaves sizes lines old replies new
