-- The cache as an abstract machine: which commands were accepted, how many of them were handed out,
-- and how many are certain to survive. There are no chunks here, no journal and no offsets.
use Rattle.std.specs.Prelude.{◌≡◌, ℕ, ◌+◌, ◌-◌, ◌<◌, ◌≤◌, ◌⊎◌, Bool, false, List, [], ◌∷◌, ◌++◌}
use Rattle.std.specs.Prelude.{length, take, Some, Result, Ok, Err}
use Rattle.std.specs.FinMap as map
use Rattle.cm_class.specs.declared.class_file.ClassFile.{ClassFile}
use Rattle.cm_pool.specs.Geometry.{Sizes}
use Rattle.cm_record.specs.Layout.{lay, limit}
use Rattle.cm_group.specs.Groups.{group_limit}
use Rattle.cm_commands.specs.declared.refusal.Refusal.{Refusal}
use Rattle.cm_commands.specs.declared.refusal.Refusal.TheVariants as refusal
use Rattle.cm_commands.specs.Refusals.{refusal_of}
use Rattle.cm_rules.specs.Keeps.{KeepsRules}
use Rattle.cm_state.specs.State.{CacheState, class_shows}
use Rattle.cm_state.specs.Step.{Change, AddLoader, Define, Unload, Tighten, UnloadAll, Cause, step}
use Rattle.cm_state.specs.Fold.{fold}

-- what the cache held before the first command, and the number of the last one before that
pub record Base : Type 0 where
  pub state : CacheState
  pub number : ℕ

pub record Machine : Type 0 where
  pub base : Base
  -- the accepted commands in order: each has the number of its place after the base's
  pub commands : List (Change ClassFile)
  -- the number up to which they are acknowledged, and the one up to which they were handed out
  pub acknowledged : ℕ
  pub sealed : ℕ
  -- the device failed since the file was opened, and the cache has noticed this
  pub failed : Bool
  pub noticed : Bool

-- the machine before its first command, for a cache that holds this
abbrev pub machine_from : Base → Machine
machine_from base = record {
  base = base;
  commands = [];
  acknowledged = base.number;
  sealed = base.number;
  failed = false;
  noticed = false;
}

-- the machine before its first command, for an empty cache
abbrev pub empty_machine : Machine
empty_machine = machine_from (record { state = map.empty; number = 0 })

-- the number of the last command that was accepted
abbrev pub accepted_to : Machine → ℕ
accepted_to k = k.base.number + length k.commands

-- the commands up to the one of this number
abbrev pub commands_to : ℕ → Machine → List (Change ClassFile)
commands_to number k = take (number - k.base.number) k.commands

-- what a cache holds after commands
abbrev pub Holds : Sizes → Base → List (Change ClassFile) → CacheState → Type 0
Holds sizes base commands m =
    fold class_shows sizes base.state base.number commands
    ≡ Some (m, base.number + length commands)

-- ---- accepting

-- a class that keeps the rules, and whose record isn't longer than the limit
pub record IsRightClass (c : ClassFile) : Type 0 where
  pub kept : KeepsRules c
  pub short : length (lay c) ≤ limit

-- the command requests this change, for a class that is known by the words of its record
abbrev pub Asks : Change (List ℕ) → Change ClassFile → Type 0
Asks (AddLoader x) change = change ≡ AddLoader x
Asks (Define x words) change =
    (c : ClassFile) × IsRightClass c × (lay c ≡ words) × (change ≡ Define x c)
Asks (Unload x) change = change ≡ Unload x
Asks (Tighten x) change = change ≡ Tighten x
Asks (UnloadAll xs) change = change ≡ UnloadAll xs

-- The command is accepted with the next number, if no cause stands against it.
pub record Accepts (sizes : Sizes) (k : Machine) (change : Change ClassFile) (number : ℕ)
    (next : Machine) : Type 0 where
  pub state : CacheState
  pub holds : Holds sizes k.base k.commands state
  pub after : CacheState
  pub may : step class_shows sizes state (accepted_to k) change ≡ Ok after
  pub number_is : number ≡ accepted_to k + 1
  pub next_is : next ≡ record k { commands = k.commands ++ change ∷ [] }

-- a command against which no cause stands may still be refused for lack of room: a class has no
-- chunk in the region, a loader's last chunk has no better one, or an allocation failed
abbrev pub WantsRoom : Change ClassFile → Refusal → Type 0
WantsRoom (AddLoader x) r = r ≡ refusal.NoMemory
WantsRoom (Define x c) r = (r ≡ refusal.RegionFull) ⊎ (r ≡ refusal.NoMemory)
WantsRoom (Unload x) r = r ≡ refusal.NoMemory
WantsRoom (Tighten x) r = (r ≡ refusal.NoMove) ⊎ (r ≡ refusal.NoMemory)
WantsRoom (UnloadAll xs) r = r ≡ refusal.NoMemory

abbrev pub IsReason : Result CacheState Cause → Change ClassFile → Refusal → Type 0
IsReason (Err cause) change r = r ≡ refusal_of cause
IsReason (Ok after) change r = WantsRoom change r

-- The command is refused: for the first cause against it, or for lack of room.
pub record Refuses (sizes : Sizes) (k : Machine) (change : Change ClassFile)
    (r : Refusal) : Type 0 where
  pub state : CacheState
  pub holds : Holds sizes k.base k.commands state
  pub reason : IsReason (step class_shows sizes state (accepted_to k) change) change r

-- ---- handing out, acknowledging, opening again

-- a group of commands is handed out, with the numbers after those already handed out
pub record Seals (k : Machine) (first last : ℕ) (next : Machine) : Type 0 where
  pub first_is : first ≡ k.sealed + 1
  pub some : first ≤ last
  pub few : last ≤ k.sealed + group_limit
  pub known : last ≤ accepted_to k
  pub next_is : next ≡ record k { sealed = last }

-- commands that were handed out are certain to be durable
pub record Acknowledges (k : Machine) (number : ℕ) (next : Machine) : Type 0 where
  pub more : k.acknowledged < number
  pub known : number ≤ k.sealed
  pub next_is : next ≡ record k { acknowledged = number }

-- the file is opened again: what was acknowledged is there, and nothing that wasn't handed out
pub record Reopens (k : Machine) (number : ℕ) (next : Machine) : Type 0 where
  pub least : k.acknowledged ≤ number
  pub most : number ≤ k.sealed
  pub next_is : next ≡ record {
    base = k.base;
    commands = commands_to number k;
    acknowledged = number;
    sealed = number;
    failed = false;
    noticed = false;
  }
