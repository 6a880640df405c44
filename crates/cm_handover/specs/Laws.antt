-- The accepted cache does what the machine does.
use Rattle.std.specs.Prelude.{◌≡◌, ℕ, ◌+◌, ◌^◌, ◌≤◌, ◌⊎◌, true, false, List, [], ◌++◌, length}
use Rattle.std.specs.Prelude.{map, Option, Ok, Err}
use Rattle.std.specs.Option.{option_map}
use Rattle.cm_class.specs.declared.class_file.ClassFile.{ClassFile}
use Rattle.cm_pool.specs.Geometry.{Sizes}
use Rattle.cm_record.specs.Layout.{lay}
use Rattle.cm_layout.specs.declared.row.Row.{Row}
use Rattle.cm_group.specs.Groups.{Carried}
use Rattle.cm_commands.specs.declared.refusal.Refusal.{Refusal}
use Rattle.cm_commands.specs.declared.refusal.Refusal.TheVariants as refusal
use Rattle.cm_state.specs.State.{CacheState, class_in, class_shows, state_of, words_show}
use Rattle.cm_state.specs.Step.{Change}
use Rattle.cm_commit.specs.Offers.{filled, rows_after_group}
use Rattle.cm_front.specs.Front.{FrontState, IsFront}
use Rattle.cm_front.specs.Accepting.{FrontAnswers}
use Rattle.cm_handover.specs.Ahead.{IsAhead, pending}
use Rattle.cm_commands.specs.Machine.{Machine, Holds, Asks, Accepts, Refuses}
use Rattle.cm_commands.specs.Machine.{accepted_to, commands_to}
use Rattle.cm_handover.specs.Following.{Follows, AreClasses}

-- the machine's commands are those of a cache that is ahead of committed rows
abbrev pub FollowsFront : Machine → List (Row (List ℕ)) → ℕ → List Carried → FrontState → Type 0
FollowsFront k rows number out s = Follows s.sizes k rows number (map filled (pending out s))

-- ---- commands

-- committed rows with their number, and what was handed out after them
pub record Behind : Type 0 where
  pub rows : List (Row (List ℕ))
  pub number : ℕ
  pub out : List Carried

-- A command that is accepted is one more of the machine's.
pub record IsAccepted (k : Machine) (behind : Behind) (s new : FrontState)
    (asked : Change (List ℕ)) (n : ℕ) : Type 0 where
  pub whole : s.broken ≡ false
  pub change : Change ClassFile
  pub asks : Asks asked change
  pub next : Machine
  pub accepts : Accepts s.sizes k change n next
  pub follows : FollowsFront next behind.rows behind.number behind.out new

abbrev pub AcceptedIsMade : Type 0
AcceptedIsMade =
    (k : Machine) (rows : List (Row (List ℕ))) (number : ℕ) (out : List Carried)
    (s new : FrontState) (asked : Change (List ℕ)) (change : Change ClassFile) (n : ℕ) → IsFront s
    → IsFront new
    → IsAhead rows number out s → FollowsFront k rows number out s → Asks asked change
    → FrontAnswers s asked (Ok n) new
    → IsAccepted k (record { rows = rows; number = number; out = out }) s new asked n

-- A command that is refused is refused by the machine, or because the cache is broken or closed.
abbrev pub RefusedIsRefused : Type 0
RefusedIsRefused =
    (k : Machine) (rows : List (Row (List ℕ))) (number : ℕ) (out : List Carried)
    (s new : FrontState) (asked : Change (List ℕ)) (change : Change ClassFile) (r : Refusal)
    → IsFront s → IsAhead rows number out s → FollowsFront k rows number out s
    → Asks asked change → FrontAnswers s asked (Err r) new
    → ((s.closed ≡ true) × (r ≡ refusal.Closed))
    ⊎ (((s.broken ≡ true) × (r ≡ refusal.Broken))
    ⊎ ((s.broken ≡ false) × Refuses s.sizes k change r))

-- ---- lookup

-- What the cache finds is the record of the class that the machine has.
pub record Finds (sizes : Sizes) (k : Machine) (loader class : List ℕ)
    (found : Option (List ℕ)) : Type 0 where
  pub state : CacheState
  pub holds : Holds sizes k.base k.commands state
  pub is : found ≡ option_map lay (class_in state loader class)

abbrev pub FoundIsThere : Type 0
FoundIsThere =
    (k : Machine) (rows : List (Row (List ℕ))) (number : ℕ) (out : List Carried)
    (s : FrontState) (loader class : List ℕ) → IsFront s → IsAhead rows number out s
    → FollowsFront k rows number out s
    → Finds s.sizes k loader class (class_in (state_of words_show s.rows) loader class)

-- ---- committing

-- Once the oldest commands are committed, the machine's commands continue from these.
abbrev pub CommittedFollows : Type 0
CommittedFollows =
    (sizes : Sizes) (k : Machine) (rows : List (Row (List ℕ))) (number : ℕ)
    (group rest : List Carried) → Follows sizes k rows number (map filled (group ++ rest))
    → number + length (group ++ rest) ≤ 2 ^ 63
    → Follows sizes k (rows_after_group rows group) (number + length group) (map filled rest)

-- The machine has as many commands as those that are committed and those that wait.
abbrev pub CommandsAreCounted : Type 0
CommandsAreCounted =
    (sizes : Sizes) (k : Machine) (rows : List (Row (List ℕ))) (number : ℕ) (waits : List Carried)
    → Follows sizes k rows number (map filled waits) → accepted_to k ≡ number + length waits

-- Rows with a number are the state after as many of the machine's commands as this number says.
pub record IsAfter (sizes : Sizes) (k : Machine) (rows : List (Row (List ℕ)))
    (number : ℕ) : Type 0 where
  pub classes : List (Row ClassFile)
  pub are : AreClasses sizes number rows classes
  pub least : k.base.number ≤ number
  pub holds : Holds sizes k.base (commands_to number k) (state_of class_shows classes)

abbrev pub RowsAreAfter : Type 0
RowsAreAfter =
    (sizes : Sizes) (k : Machine) (rows : List (Row (List ℕ))) (number : ℕ) (waits : List Carried)
    → Follows sizes k rows number (map filled waits) → IsAfter sizes k rows number

-- The machine continues from such rows when the file that holds them is opened again.
abbrev pub OpenedFollows : Type 0
OpenedFollows =
    (sizes : Sizes) (k next : Machine) (rows : List (Row (List ℕ))) (number : ℕ)
    → IsAfter sizes k rows number → next.base ≡ k.base → next.commands ≡ commands_to number k
    → number ≤ accepted_to k → Follows sizes next rows number []
