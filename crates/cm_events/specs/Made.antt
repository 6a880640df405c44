-- The results of the lines of a simulation.
use Rattle.std.specs.Prelude.{◌≡◌, ℕ, ◌+◌, ◌++◌, if◌then◌else◌, List, [], ◌∷◌, Option, Some, None}
use Rattle.std.specs.Prelude.{map, take, is_some}
use Rattle.std.specs.List.{flat_map}
use Rattle.cm_class.specs.declared.class_file.ClassFile.{ClassFile}
use Rattle.cm_record.specs.Layout.{lay}
use Rattle.cm_rules.specs.Answer.{SpellsRightClass}
use Rattle.cm_commands.specs.Prepare.{IsRefusedBytes}
use Rattle.cm_commands.specs.Names.{names_kept}
use Rattle.cm_commands.specs.declared.command.Command.{Command}
use Rattle.cm_commands.specs.declared.command.Command.TheVariants as command
use Rattle.cm_commands.specs.declared.refusal.Refusal.{Refusal}
use Rattle.cm_world.specs.declared.event.Event.{Event}
use Rattle.cm_world.specs.declared.event.Event.TheVariants as event
use Rattle.cm_events.specs.declared.made.Made.{Made}
use Rattle.cm_events.specs.declared.made.Made.TheVariants as made
use Rattle.cm_events.specs.declared.simulation.Turn.{Turn}
use Rattle.cm_events.specs.declared.simulation.Turn.TheVariants as turn
use Rattle.cm_events.specs.declared.simulation.Simulation.{Simulation}
use Rattle.cm_events.specs.declared.fault.SimulationFault.{SimulationFault}
use Rattle.cm_events.specs.declared.fault.SimulationFault.TheVariants as fault
use Rattle.cm_events.specs.Asked.{EventAsked, AsksLoader, AsksDefine, AsksUnload, AsksTighten}
use Rattle.cm_events.specs.Asked.{AsksSeal}
use Rattle.cm_events.specs.Asked.{AsksUnloadAll, AsksAdvance, AsksTrim, AsksLearn, AsksLook}
use Rattle.cm_events.specs.Asked.{AsksFault}
use Rattle.cm_events.specs.Asked.{AsksReopen, AsksCrash, event_of_line, geometry_of_line}

-- ---- one line

-- a definition of the class that these bytes are, by the words of its record
pub record IsDefinition (asked : Option EventAsked) (loader words : List ℕ) : Type 0 where
  pub bytes : List ℕ
  pub asked_is : asked ≡ Some (AsksDefine loader bytes)
  pub c : ClassFile
  pub right : SpellsRightClass bytes c
  pub words_are : words ≡ lay c

-- the command has the requested names; of more than are kept, which would be refused as well, only
-- the first ones
pub record IsUnloadAll (asked : Option EventAsked) (names : List (List ℕ)) : Type 0 where
  pub all : List (List ℕ)
  pub asked_is : asked ≡ Some (AsksUnloadAll all)
  pub names_are : names ≡ take names_kept all

-- the command is the request
abbrev pub IsCommand : Option EventAsked → Command → Type 0
IsCommand asked (command.AddLoader name) = asked ≡ Some (AsksLoader name.now)
IsCommand asked (command.Define loader class) = IsDefinition asked loader.now class
IsCommand asked (command.Unload name) = asked ≡ Some (AsksUnload name.now)
IsCommand asked (command.Tighten name) = asked ≡ Some (AsksTighten name.now)
IsCommand asked (command.UnloadAll names) = IsUnloadAll asked names

-- the event is the request
abbrev pub IsEvent : Option EventAsked → Event → Type 0
IsEvent asked (event.Accept command) = IsCommand asked command
IsEvent asked event.Seal = asked ≡ Some AsksSeal
IsEvent asked event.Advance = asked ≡ Some AsksAdvance
IsEvent asked event.Trim = asked ≡ Some AsksTrim
IsEvent asked event.Learn = asked ≡ Some AsksLearn
IsEvent asked (event.Look loader class) = asked ≡ Some (AsksLook loader.now class.now)
IsEvent asked (event.Fault stores) = asked ≡ Some (AsksFault stores)
IsEvent asked event.Reopen = asked ≡ Some AsksReopen
IsEvent asked (event.Crash choice) = asked ≡ Some (AsksCrash choice.len choice.fill.items)

-- a class is to be defined from bytes that can't be prepared, so there is no event
pub record IsRefused (asked : Option EventAsked) (r : Refusal) : Type 0 where
  pub loader : List ℕ
  pub bytes : List ℕ
  pub asked_is : asked ≡ Some (AsksDefine loader bytes)
  pub refused : IsRefusedBytes bytes r

abbrev pub Comes : Option EventAsked → Made → Type 0
Comes asked (made.Runs e) = IsEvent asked e
Comes asked (made.Refused r) = IsRefused asked r

-- ---- all lines

abbrev pub EachComes : List (List ℕ) → List Made → Type 0
EachComes [] [] = Unit {0}
EachComes [] (m ∷ more) = ⊥
EachComes (line ∷ lines) [] = ⊥
EachComes (line ∷ lines) (m ∷ more) = Comes (event_of_line line) m × EachComes lines more

abbrev pub event_in : Made → List Event
event_in (made.Runs e) = e ∷ []
event_in (made.Refused r) = []

abbrev pub turn_of : Made → Turn
turn_of (made.Runs e) = turn.Runs
turn_of (made.Refused r) = turn.Refused r

-- one turn per line, and the events of those that run, in order
pub record AreOf (lines : List (List ℕ)) (events : List Event) (turns : List Turn)
    : Type 0 where
  pub made : List Made
  pub each : EachComes lines made
  pub events_are : events ≡ flat_map event_in made
  pub turns_are : turns ≡ map turn_of made

-- the first line gives the sizes, and those after it the events
pub record IsSimulation (lines : List (List ℕ)) (s : Simulation) : Type 0 where
  pub first : List ℕ
  pub rest : List (List ℕ)
  pub lines_are : lines ≡ first ∷ rest
  pub geometry : geometry_of_line first ≡ Some s.geometry
  pub events : AreOf rest s.events.items s.turns.items

-- ---- lines of a wrong form

-- the number of the first line that is no event, if the first of these lines has number `n`
abbrev pub first_bad_from : ℕ → List (List ℕ) → Option ℕ
first_bad_from n [] = None
first_bad_from n (line ∷ lines) =
    if is_some (event_of_line line) then first_bad_from (n + 1) lines else Some n

-- the number of the first line that doesn't have the required form, counted from 1; if there is no
-- line, the first is missing
abbrev pub first_bad : List (List ℕ) → Option ℕ
first_bad [] = Some 1
first_bad (line ∷ lines) =
    if is_some (geometry_of_line line) then first_bad_from 2 lines else Some 1

abbrev pub IsLineFault : List (List ℕ) → SimulationFault → Type 0
IsLineFault lines (fault.BadLine n) = first_bad lines ≡ Some n
IsLineFault lines fault.NoMemory = Unit {0}

-- the line's events and its turn come after those already there
pub record TakesLine (line : List ℕ) (old new : Simulation) : Type 0 where
  pub taken : Made
  pub comes : Comes (event_of_line line) taken
  pub events : new.events.items ≡ old.events.items ++ event_in taken
  pub turns : new.turns.items ≡ old.turns.items ++ turn_of taken ∷ []
