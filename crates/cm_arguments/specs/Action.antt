-- What the result keeps of the words of a command line.
use Rattle.std.specs.Prelude.{◌≡◌, ◌<◌, ◌≤◌, ℕ, List, Option, Some, None, Contains, IfSome, codes}
use Rattle.std.specs.Prelude.{option_map, slice_get, drop, map}
use Rattle.std.specs.Borrow.{Bor}
use Rattle.cm_pool.specs.Geometry.{Sizes, IsGeometry}
use Rattle.cm_arguments.specs.declared.action.Action.{Action}
use Rattle.cm_arguments.specs.declared.action.Action.TheVariants.{Format, Check, List as Lists}
use Rattle.cm_arguments.specs.declared.action.Action.TheVariants.{Trim, Apply}
use Rattle.cm_arguments.specs.declared.fault.UsageFault.{UsageFault}
use Rattle.cm_arguments.specs.declared.fault.UsageFault.TheVariants.{Help, Words, NoMemory}

abbrev pub action_path : Action → Option (Bor (List ℕ))
action_path (Format path geometry) = Some path
action_path (Check path) = Some path
action_path (Lists path) = Some path
action_path (Trim path) = Some path
action_path (Apply path workers) = path

abbrev pub action_geometry : Action → Option Sizes
action_geometry (Format path geometry) = Some geometry
action_geometry (Check path) = None
action_geometry (Lists path) = None
action_geometry (Trim path) = None
action_geometry (Apply path workers) = None

-- the sizes of a cache if no others are given
abbrev pub usual_sizes : Sizes
usual_sizes = record { top = 8; roots = 64; slots = 4096 }

-- how many threads a script may have
abbrev pub most_workers : ℕ
most_workers = 16

abbrev pub action_workers : Action → Option ℕ
action_workers (Format path geometry) = None
action_workers (Check path) = None
action_workers (Lists path) = None
action_workers (Trim path) = None
action_workers (Apply path workers) = Some workers

-- the name of the command
abbrev pub action_command : Action → List ℕ
action_command (Format path geometry) = codes "format"
action_command (Check path) = codes "check"
action_command (Lists path) = codes "list"
action_command (Trim path) = codes "trim"
action_command (Apply path workers) = codes "apply"

-- The first word is its command, and its path is one of the others. Without a path `--memory` is
-- one of them. Its numbers are within their limits.
pub record IsOfWords (words : List (Bor (List ℕ))) (action : Action) : Type 0 where
  pub command : option_map (λ w. w.now) (slice_get words 0) ≡ Some (action_command action)
  pub path : IfSome (action_path action) (Contains (drop 1 words))
  pub memory : action_path action ≡ None
      → Contains (map (λ w. w.now) (drop 1 words)) (codes "--memory")
  pub numbers : IfSome (action_geometry action) IsGeometry
  pub workers : IfSome (action_workers action) (λ n. (0 < n) × (n ≤ most_workers))

-- the words request help
abbrev pub IsHelp : UsageFault → Type 0
IsHelp (Help text) = Unit {0}
IsHelp (Words text) = ⊥
IsHelp NoMemory = ⊥

-- the words are wrong
abbrev pub IsUsageError : UsageFault → Type 0
IsUsageError (Help text) = ⊥
IsUsageError (Words text) = Unit {0}
IsUsageError NoMemory = ⊥
