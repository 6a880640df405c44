-- The groups that aren't handed out yet, and whether there is room for one more entry.
use Rattle.std.specs.Prelude.{◌≡◌, ℕ, Bool, List, [], ◌∷◌, Option, Some, None}
use Rattle.cm_group.specs.Groups.{Handed, next_number}

pub record WaitingGroups : Type 0 where
  pub groups : List Handed
  -- the next entry allocates nothing
  pub is_ready : Bool

-- there are full groups only before a newest one
abbrev pub NewestIsLast : List Handed → Option Handed → Type 0
NewestIsLast full None = full ≡ []
NewestIsLast full (Some newest) = Unit {0}

-- groups with consecutive numbers, from the first up to the one before the last, with nothing
-- learnt yet
abbrev pub Follow : ℕ → List Handed → ℕ → Type 0
Follow from [] to = from ≡ to
Follow from (group ∷ groups) to =
    (group.first ≡ from) × (group.learnt ≡ 0) × Follow (next_number group) groups to

-- the groups' numbers end before this one
pub record EndBefore (groups : List Handed) (number : ℕ) : Type 0 where
  pub from : ℕ
  pub follow : Follow from groups number

-- the oldest group is taken out
pub record TakesOldest (old : List Handed) (group : Handed) (new : List Handed) : Type 0 where
  pub is_oldest : old ≡ group ∷ new
