-- What is accepted is sent at once: how the accepted cache matches what was sent.
use Rattle.std.specs.Prelude.{◌≡◌, ℕ, ◌+◌, ◌||◌, nat_le, if◌then◌else◌, true, List, [], ◌∷◌, ◌++◌}
use Rattle.std.specs.Prelude.{length, Some, None, Ok, refl}
use Rattle.std.specs.List.{All}
use Rattle.std.specs.Coded.{Coded, code_by, coded×, codes}
use Rattle.cm_layout.specs.declared.row.Row.{Row}
use Rattle.cm_group.specs.Groups.{Carried, Handed, IsGroup}
use Rattle.cm_state.specs.Step.{Change}
use Rattle.cm_state.specs.State.{words_show}
use Rattle.cm_state.specs.Entries.{AreCacheRows, change_of}
use Rattle.cm_commit.specs.Offers.{filled, rows_after_group}
use Rattle.cm_front.specs.Front.{FrontState, IsFront, first_refusal, front_code}
use Rattle.cm_front.specs.Accepting.{FrontAnswers, HandsOut, HasNoChunk, with_learnt}
use Rattle.cm_handover.specs.Ahead.{IsAhead}
use Rattle.cm_cache.specs.declared.board_view.Seen.{Seen}
use Rattle.cm_cache.specs.declared.channel.Base.{Base}
use Rattle.cm_cache.specs.declared.channel.Message.{Message}
use Rattle.cm_cache.specs.declared.channel.Message.TheVariants.{Group}
use Rattle.cm_cache.specs.Channel.{entries_of, is_open, number_sent}

-- the accepted cache, and all that was sent
pub record HandingState : Type 0 where
  pub front : FrontState
  pub sent : List Message

pub messages_code : Coded (List Message)
messages_code = Prim.hlevel codes

-- a value of this kind as data
abbrev pub handing_code : Coded HandingState
handing_code =
    code_by (FrontState × List Message) (coded× front_code messages_code)
    (λ h. (h.front, h.sent))
    (λ t. record { front = t.0; sent = t.1 })
    (λ _. refl)

-- the rows after all that was sent
abbrev pub rows_sent : Base → List Message → List (Row (List ℕ))
rows_sent base sent = rows_after_group base.rows (entries_of sent)

-- What was opened are rows of a cache. Nothing that was accepted is held back. What was sent is
-- what the cache has learnt to be durable, followed by the entries by which it is ahead of that.
pub record IsTied (base : Base) (h : HandingState) : Type 0 where
  pub opened : AreCacheRows words_show base.sizes base.number base.rows
  pub is : IsFront h.front
  pub sizes : h.front.sizes ≡ base.sizes
  pub stored : List Carried
  pub ahead_by : List Carried
  pub split : entries_of h.sent ≡ stored ++ ahead_by
  pub ahead : IsAhead (rows_after_group base.rows stored) (base.number + length stored)
      ahead_by h.front
  pub learnt : h.front.learnt ≡ base.number + length stored
  pub all_sent : h.front.unsealed ≡ []
  pub unended : is_open h.sent ≡ true

-- a cache that was just opened, with nothing to send
pub record IsFresh (base : Base) (s : FrontState) : Type 0 where
  pub is : IsFront s
  pub sizes : s.sizes ≡ base.sizes
  pub ahead : IsAhead base.rows base.number [] s
  pub learnt : s.learnt ≡ base.number
  pub none : s.unsealed ≡ []

-- what only a receipt, a failure and a close change
pub record SameMarks (s new : FrontState) : Type 0 where
  pub learnt : new.learnt ≡ s.learnt
  pub broken : new.broken ≡ s.broken
  pub closed : new.closed ≡ s.closed

-- what a receipt changes: nothing if its number wasn't handed out
abbrev pub with_receipt : FrontState → ℕ → FrontState
with_receipt s number = if nat_le number s.sealed then with_learnt s number else s

-- what the cache learns from what was seen on the Board: a failure, and what is durable
abbrev pub with_seen : FrontState → Seen → FrontState
with_seen s seen =
    with_receipt (record s { broken = seen.broken || s.broken }) seen.receipt.number

-- the cache has no refusal for the change, and this is the next number
pub record MayAccept (s : FrontState) (change : Change (List ℕ)) (n : ℕ) : Type 0 where
  pub none : first_refusal s change ≡ None
  pub room : ¬ HasNoChunk s change
  pub number : n ≡ s.number + 1

-- A change is accepted with this number and handed out by itself.
pub record TakesOut (s : FrontState) (change : Change (List ℕ)) (n : ℕ) (group : Handed)
    (new : FrontState) : Type 0 where
  pub between : FrontState
  pub is_between : IsFront between
  pub answers : FrontAnswers s change (Ok n) between
  pub hands : HandsOut between group new
  pub is_group : IsGroup group
  pub is_new : IsFront new

-- One group of one entry is sent: the change, on the rows after all that was sent, with the number
-- after theirs.
pub record HandsOver (base : Base) (sent : List Message) (change : Change (List ℕ)) (n : ℕ)
    (new : List Message) : Type 0 where
  pub group : Handed
  pub entry : Carried
  pub one : group.entries ≡ entry ∷ []
  pub new_is : new ≡ sent ++ Group group ∷ []
  pub change_is : change_of (rows_sent base sent) (filled entry) ≡ Some change
  pub number_is : n ≡ number_sent base sent + 1

-- ---- what is known later

-- all entries that were sent, with the one of this number: the change, on the rows after all before
-- it
pub record IsHanded (base : Base) (all : List Carried) (change : Change (List ℕ)) (n : ℕ)
    : Type 0 where
  pub before : List Carried
  pub entry : Carried
  pub rest : List Carried
  pub all_are : all ≡ before ++ entry ∷ rest
  pub change_is : change_of (rows_after_group base.rows before) (filled entry) ≡ Some change
  pub number_is : n ≡ base.number + length before + 1

-- each of these changes is among all entries that were sent, at its number
abbrev pub AreHanded : Base → List Carried → List (Change (List ℕ) × ℕ) → Type 0
AreHanded base all changes =
    All (λ (c : Change (List ℕ) × ℕ). IsHanded base all c.0 c.1) changes
