-- The lines that are the replies to those of a simulation.
use Rattle.std.specs.Prelude.{ℕ, List, [], ◌∷◌, ◌++◌, length, codes, Option, Some, None}
use Rattle.std.specs.Option.{option_map}
use Rattle.std.specs.Fmt.{decimal}
use Rattle.std.specs.Arc.{arc_value}
use Rattle.std.specs.Borrow.{Bor}
use Rattle.cm_commands.specs.declared.refusal.Refusal.{Refusal}
use Rattle.cm_commands.specs.declared.refusal.Refusal.TheVariants.{NoMemory}
use Rattle.cm_commands.specs.Refusals.{refusal_number}
use Rattle.cm_session.specs.declared.session.Sealed.{Sealed}
use Rattle.cm_world.specs.declared.reply.Reply.{Reply}
use Rattle.cm_world.specs.declared.reply.Reply.TheVariants as reply
use Rattle.cm_events.specs.declared.simulation.Turn.{Turn}
use Rattle.cm_events.specs.declared.simulation.Turn.TheVariants as turn

-- a word, a space and a number
abbrev pub numbered : List ℕ → ℕ → List ℕ
numbered word n = word ++ 32 ∷ decimal n

abbrev pub refused_text : Refusal → List ℕ
refused_text r = numbered (codes "refused") (refusal_number r)

abbrev pub group_text : Sealed → List ℕ
group_text group = numbered (numbered (codes "group") group.first) group.last

-- a class by the words of its record
abbrev pub class_text : Option (List ℕ) → List ℕ
class_text None = codes "none"
class_text (Some words) = numbered (codes "class") (length words)

abbrev pub reply_text : Reply → List ℕ
reply_text (reply.Accepted n) = numbered (codes "number") n
reply_text (reply.Refused r) = refused_text r
reply_text (reply.Sealed group) = group_text group
reply_text reply.NothingToSeal = codes "none"
reply_text reply.NoMemory = refused_text NoMemory
reply_text reply.Idle = codes "idle"
reply_text reply.Working = codes "working"
reply_text (reply.Done n) = numbered (codes "done") n
reply_text (reply.Trimmed n) = numbered (codes "trimmed") n
reply_text reply.TrimDue = codes "due"
reply_text reply.NothingToTrim = codes "nothing"
reply_text reply.NotIdle = codes "not idle"
reply_text reply.DeviceFailed = codes "device"
reply_text reply.Broken = codes "broken"
reply_text (reply.Learnt n) = numbered (codes "learnt") n
reply_text (reply.Found found) = class_text (option_map arc_value found)
reply_text reply.Armed = codes "armed"
reply_text (reply.Opened n) = numbered (codes "opened") n

abbrev pub with_newline : List ℕ → List ℕ
with_newline text = text ++ 10 ∷ []

-- One line for each turn: for one that runs, the next reply, as long as there are any.
abbrev pub answers : List Turn → List Reply → List ℕ
answers [] replies = []
answers (turn.Refused r ∷ turns) replies = with_newline (refused_text r) ++ answers turns replies
answers (turn.Runs ∷ turns) [] = []
answers (turn.Runs ∷ turns) (r ∷ replies) = with_newline (reply_text r) ++ answers turns replies

-- the lines of the turns that are left, if there are replies for them
abbrev pub answers_behind : List Turn → Option (Bor (List Reply)) → List ℕ
answers_behind turns None = []
answers_behind turns (Some replies) = answers turns replies.now
