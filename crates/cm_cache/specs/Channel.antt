-- The channel from the accepted cache to the flusher: what was sent, what was received, and that
-- each group continues those sent before it.
use Rattle.std.specs.Prelude.{◌≡◌, ℕ, ◌+◌, ◌≤◌, Bool, true, false, List, [], ◌∷◌, ◌++◌, length}
use Rattle.std.specs.Prelude.{Option, Some, None}
use Rattle.std.specs.List.{All, AllPairs}
use mathlib.Core.Option.{some}
use lib.ListN.{get_elem?}
use Rattle.atomic_table.specs.Seated.{TableId}
use Rattle.atomic_table.specs.declared.badge.Badge.{Badge}
use Rattle.crossbeam_channel.specs.declared.flavors.array.Key.{Key}
use Rattle.crossbeam_channel.specs.declared.flavors.array.Rows.{Rows}
use Rattle.crossbeam_channel.specs.Claims.{Pass}
use Rattle.cm_group.specs.Groups.{Carried}
use Rattle.cm_handover.specs.Carrying.{GroupMayFollow}
use Rattle.cm_cache.specs.declared.channel.Base.{Base}
use Rattle.cm_cache.specs.declared.channel.ChannelView.{ChannelView}
use Rattle.cm_cache.specs.declared.channel.Message.{Message}
use Rattle.cm_cache.specs.declared.channel.Message.TheVariants.{Group, End}

-- ---- messages

-- the entries of all groups, in order
abbrev pub entries_of : List Message → List Carried
entries_of [] = []
entries_of (Group group ∷ messages) = group.entries ++ entries_of messages
entries_of (End ∷ messages) = entries_of messages

-- there is no End among them, so more may be sent
abbrev pub is_open : List Message → Bool
is_open [] = true
is_open (Group group ∷ messages) = is_open messages
is_open (End ∷ messages) = false

-- the message may be sent after these entries: a group continues them
abbrev pub MayBeSent : Base → List Carried → Message → Type 0
MayBeSent base before (Group group) =
    GroupMayFollow base.sizes base.rows base.number before group
MayBeSent base before End = Unit {0}

-- each message may be sent after those before it, and none after an End
abbrev pub InOrder : Base → List Carried → List Message → Type 0
InOrder base before [] = Unit {0}
InOrder base before (Group group ∷ messages) =
    MayBeSent base before (Group group) × InOrder base (before ++ group.entries) messages
InOrder base before (End ∷ messages) = messages ≡ []

-- the number of the last command after all that was sent
abbrev pub number_sent : Base → List Message → ℕ
number_sent base sent = base.number + length (entries_of sent)

-- the numbers of these entries, if the one before them has this number
abbrev pub numbers_after : ℕ → List Carried → List ℕ
numbers_after n [] = []
numbers_after n (entry ∷ entries) = (n + 1) ∷ numbers_after (n + 1) entries

-- the numbers of the commands that the message brings, after those that were sent
abbrev pub numbers_in : Base → List Message → Message → List ℕ
numbers_in base sent (Group group) = numbers_after (number_sent base sent) group.entries
numbers_in base sent End = []

-- no number stands twice
abbrev pub AreApart : List ℕ → Type 0
AreApart numbers = AllPairs (λ n m. ¬ (n ≡ m)) numbers

-- ---- what an end knows

abbrev pub sender : Base → List Message → ChannelView
sender base sent = record {
  sends = true;
  receives = false;
  base = base;
  sent = sent;
  received = [];
  known = [];
  owned = [];
}

abbrev pub receiver : Base → List Message → ChannelView
receiver base received = record {
  sends = false;
  receives = true;
  base = base;
  sent = [];
  received = received;
  known = [];
  owned = [];
}

abbrev pub both_ends : Base → List Message → List Message → ChannelView
both_ends base sent received = record {
  sends = true;
  receives = true;
  base = base;
  sent = sent;
  received = received;
  known = [];
  owned = [];
}

-- the base of a channel that belongs to no cache yet
abbrev pub no_base : Base
no_base = record { sizes = record { top = 3; roots = 1; slots = 256 }; rows = []; number = 0 }

-- a witness of what had been sent by then, to which these numbers belong
abbrev pub witness : List Message → List ℕ → ChannelView
witness sent owned = record {
  sends = false;
  receives = false;
  base = no_base;
  sent = [];
  received = [];
  known = sent;
  owned = owned;
}

-- what an end knows after it was joined to the other end
abbrev pub no_end : ChannelView
no_end = witness [] []

-- what an end knows once it was joined to a witness, whose numbers are its own now
abbrev pub hearing : ChannelView → ChannelView → ChannelView
hearing v w = record v { known = w.known; owned = v.owned ++ w.owned }

-- what an end knows once it has given its numbers away
abbrev pub giving : ChannelView → ChannelView
giving v = record v { owned = [] }

-- what an end knows once it has sent the message
abbrev pub sending : ChannelView → Message → ChannelView
sending v message = record v {
  sent = v.sent ++ message ∷ [];
  owned = v.owned ++ numbers_in v.base v.sent message;
}

-- the end that sends as contracts describe it: all that was sent, and which numbers of it no
-- witness has
pub record OutgoingState : Type 0 where
  pub sent : List Message
  pub owned : List ℕ

-- once it has sent the message
abbrev pub sent_more : Base → OutgoingState → Message → OutgoingState
sent_more base o message = record {
  sent = o.sent ++ message ∷ [];
  owned = o.owned ++ numbers_in base o.sent message;
}

-- a witness as contracts describe it: what had been sent, and the numbers that belong to it
pub record WitnessState : Type 0 where
  pub known : List Message
  pub owned : List ℕ

-- what a witness shows, if there is one
abbrev pub shown_by : Option WitnessState → List Message
shown_by None = []
shown_by (Some witness) = witness.known

-- which numbers belong to it
abbrev pub owned_by : Option WitnessState → List ℕ
owned_by None = []
owned_by (Some witness) = witness.owned

-- ---- the rule

-- One end sends, and knows all that was sent. One receives, and knows all that was received. Both
-- know what was opened. A witness knows a beginning of what was sent. Each number of a command that
-- was sent belongs to one end at most, its owner.
pub record FitsChannel (writer reader : ℕ) (owner : ℕ → ℕ) (opened : Base) (all got : List Message)
    (port : ℕ) (v : ChannelView) : Type 0 where
  pub sends : v.sends ≡ true → (port ≡ writer) × (v.sent ≡ all) × (v.base ≡ opened)
  pub receives : v.receives ≡ true → (port ≡ reader) × (v.received ≡ got) × (v.base ≡ opened)
  pub known : (rest : List Message) × (all ≡ v.known ++ rest)
  pub owned : All (λ n. (owner n ≡ port) × (n ≤ number_sent opened all)) v.owned
  pub apart : AreApart v.owned

-- What was sent is in order. It is what was received, followed by what the channel holds.
pub record IsRelayed (items : List Message) (views : List ChannelView) : Type 0 where
  pub writer : ℕ
  pub reader : ℕ
  pub owner : ℕ → ℕ
  pub base : Base
  pub sent : List Message
  pub received : List Message
  pub all : sent ≡ received ++ items
  pub ordered : InOrder base [] sent
  pub each : (port : ℕ) (v : ChannelView) → get_elem? views port ≡ some v
      → FitsChannel writer reader owner base sent received port v

-- ---- what each step says

abbrev pub HasSent : ChannelView → Message → ChannelView → Type 0
HasSent v message after = after ≡ sending v message

abbrev pub HasReceived : ChannelView → Message → ChannelView → Type 0
HasReceived v message after =
    (after ≡ record v { received = v.received ++ message ∷ [] })
    × MayBeSent v.base (entries_of v.received) message

abbrev pub IsAll : ChannelView → List Message → Type 0
IsAll v items = (v.sent ≡ v.received ++ items) × InOrder v.base [] v.sent

abbrev pub IsOrdered : ChannelView → List Message → Type 0
IsOrdered v items = InOrder v.base [] v.sent

abbrev pub IsBeginning : ChannelView → List Message → Type 0
IsBeginning v items = (rest : List Message) × (v.sent ≡ v.known ++ rest)

abbrev pub OwnsApart : ChannelView → List Message → Type 0
OwnsApart v items = AreApart v.owned

-- ---- which channel it is

pub record ChannelId : Type 0 where
  pub table : TableId
  pub key : Badge (Key Message)

abbrev pub no_table : TableId
no_table = record {
  words = 0;
  slots = 0;
  views_name = 0;
  atom = 0;
  block = 0;
  offset = 0;
  slot_names = [];
}

abbrev pub no_channel : ChannelId
no_channel = record {
  table = no_table;
  key = record { marker = record {}; table_id = no_table; id = 0; views = [] };
}

abbrev pub channel_of : {D Q M L A : Type 0} → Rows (Badge (Key Message)) D Q M (Key Message) L A
    → ChannelId
channel_of c = record { table = c.stamps.shared.table_id; key = c.stamps.shared.key }

-- what a pass of the channel knows
abbrev pub known_to : Pass Message ChannelView → ChannelView
known_to pass = pass.me.0.client
