-- What passes between an import and the feed of its classes.
use Rattle.std.specs.Prelude.{◌≡◌, ℕ, ◌++◌, List, [], ◌∷◌, Option, Some, None, Result, Ok, Err, ⊤}
use Rattle.std.specs.Global.{Vec}
use Rattle.cm_importing.specs.declared.outcome.Outcome.{Outcome}

-- Classes are given as one group, each by the words of its record; what became of each class of a
-- group is told; or there are no more.
pub data FeedEvent : Type 0 where
  Given : List (List ℕ) → FeedEvent
  Told : List Outcome → FeedEvent
  NoMore : FeedEvent

-- what is known of a feed grows by these events
abbrev pub Logs : Option (List FeedEvent) → Option (List FeedEvent) → List FeedEvent → Type 0
Logs None new events = ⊤
Logs (Some had) None events = ⊥
Logs (Some had) (Some has) events = has ≡ had ++ events

-- asked for the next classes: an `Err` says that none was given
abbrev pub events_of_next : {E : Type 0} → Result (Option (Vec (List ℕ))) E → List FeedEvent
events_of_next (Ok (Some classes)) = Given classes.items ∷ []
events_of_next (Ok None) = NoMore ∷ []
events_of_next (Err e) = []

-- a group of classes, by the words of their records, and what became of each
pub record Group : Type 0 where
  pub classes : List (List ℕ)
  pub outcomes : List Outcome

-- groups that were given, each told of before the next
abbrev pub group_events : List Group → List FeedEvent
group_events [] = []
group_events (group ∷ groups) =
    Given group.classes ∷ Told group.outcomes ∷ group_events groups
