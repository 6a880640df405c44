-- The invariant of a session: an accepted cache, the committer of its disk, and the groups that
-- wait between the two.
use Rattle.std.specs.Prelude.{◌≡◌, ℕ, ◌+◌, ◌≤◌, Bool, false, List, [], ◌∷◌, ◌++◌, length}
use Rattle.std.specs.Prelude.{Option, Some, None}
use Rattle.std.specs.List.{flat_map}
use Rattle.cm_pool.specs.Geometry.{Sizes}
use Rattle.cm_layout.specs.declared.row.Row.{Row}
use Rattle.cm_group.specs.Groups.{Carried, Handed, IsGroup, IsContinuedBy}
use Rattle.cm_front.specs.Front.{FrontState, IsFront}
use Rattle.cm_guards.specs.Stages.{Stage, calls_left}
use Rattle.cm_commit.specs.Offers.{rows_after_group}
use Rattle.cm_commit.specs.States.{Work, Storing, Trimming, CommitterState}
use Rattle.cm_handover.specs.Ahead.{IsAhead}
use Rattle.cm_commands.specs.Machine.{Machine}
use Rattle.cm_handover.specs.Laws.{FollowsFront}

-- ---- groups that wait

-- the one that is stored, if one is
abbrev pub of_underway : Option Work → List Handed
of_underway None = []
of_underway (Some Trimming) = []
of_underway (Some (Storing group)) = group ∷ []

-- the commands of groups, oldest first
abbrev pub commands_of : List Handed → List Carried
commands_of groups = flat_map (λ g. g.entries) groups

-- groups one after another, the first with the number after n
abbrev pub AreConsecutive : ℕ → List Handed → Type 0
AreConsecutive n [] = Unit {0}
AreConsecutive n (group ∷ groups) =
    (group.first ≡ n + 1) × IsGroup group × AreConsecutive (n + length group.entries) groups

-- the oldest waiting group, if there is one, doesn't fit into one group with this one
abbrev pub NoneContinues : Handed → List Handed → Type 0
NoneContinues group [] = Unit {0}
NoneContinues group (next ∷ queue) = ¬ IsContinuedBy group next

-- calls are left exactly as long as something is under way
abbrev pub IsBusyWith : Option Work → List Stage → Type 0
IsBusyWith None left = left ≡ []
IsBusyWith (Some work) left = 1 ≤ calls_left left

-- what the accepted cache has learnt to be committed: the rows then, and what was stored since
pub record Past : Type 0 where
  pub known : List (Row (List ℕ))
  pub since : List Carried

-- Rows are committed with this number. What was stored since leads to them from the rows that were
-- learnt; and at each number from the learnt one on, no word is free that rows use.
pub record IsPast (p : Past) (rows : List (Row (List ℕ))) (number : ℕ) (out : List Carried)
    (front : FrontState) : Type 0 where
  pub number_is : front.learnt + length p.since ≡ number
  pub rows_are : rows_after_group p.known p.since ≡ rows
  pub ahead : IsAhead p.known front.learnt (p.since ++ out) front

-- the same of some rows that were learnt
pub record IsAheadOfLearnt (rows : List (Row (List ℕ))) (number : ℕ) (out : List Carried)
    (front : FrontState) : Type 0 where
  pub past : Past
  pub is : IsPast past rows number out front

-- ---- the session

-- the groups that were handed out and aren't stored yet, oldest first
abbrev pub groups_out : {D : Type 0} → CommitterState D → List Handed → List Handed
groups_out committer queue = of_underway committer.underway ++ queue

-- The accepted cache is one of these sizes, and isn't closed.
pub record IsOpen (these : Sizes) (front : FrontState) : Type 0 where
  pub is : IsFront front
  pub sizes : front.sizes ≡ these
  pub running : front.closed ≡ false

-- The groups between the two follow what is committed, and calls are left exactly as long as
-- something is under way. With their commands the accepted cache is ahead of what is committed, and
-- of what it learnt.
pub record AreBetween {D : Type 0} (front : FrontState) (committer : CommitterState D)
    (queue : List Handed) : Type 0 where
  pub groups : AreConsecutive committer.number (groups_out committer queue)
  pub busy : IsBusyWith committer.underway committer.left
  pub ahead : IsAhead committer.rows committer.number (commands_of (groups_out committer queue))
      front
  pub from_learnt : IsAheadOfLearnt committer.rows committer.number
      (commands_of (groups_out committer queue)) front

-- What is committed, up to this number, is acknowledged, and what the accepted cache handed out is
-- sealed. The machine failed if the committer did, and noticed it if the accepted cache did. The
-- session's own number and flag say the same.
pub record AreTold (k : Machine) (front : FrontState) (number : ℕ) (broken : Bool)
    (sealed : ℕ) (failed : Bool) : Type 0 where
  pub acknowledged_is : k.acknowledged ≡ number
  pub sealed_is : k.sealed ≡ front.sealed
  pub sealed_told : sealed ≡ front.sealed
  pub failed_is : k.failed ≡ broken
  pub failed_told : failed ≡ broken
  pub noticed_is : k.noticed ≡ front.broken

-- The parts of a session match the machine's state: the groups under way and queued lead from what
-- is committed to what is accepted, the machine's commands are these, and its numbers and flags are
-- those of the parts.
pub record IsSession {D : Type 0} (k : Machine) (front : FrontState) (committer : CommitterState D)
    (queue : List Handed) (sealed : ℕ) (failed : Bool) : Type 0 where
  pub cache : IsOpen committer.sizes front
  pub between : AreBetween front committer queue
  pub follows : FollowsFront k committer.rows committer.number
      (commands_of (groups_out committer queue)) front
  pub told : AreTold k front committer.number committer.broken sealed failed
