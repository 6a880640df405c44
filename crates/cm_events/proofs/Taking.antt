-- Lines taken one after another.
-- For `read_events`.
use Rattle.std.proofs.Common.{◌≡◌, ℕ, ◌+◌, ◌++◌, true, cond, List, [], ◌∷◌, Option, Some, sym, ap}
use Rattle.std.proofs.Common.{subst, ◌∙◌, append_assoc, append-nil}
use Rattle.std.specs.Prelude.{map, is_some}
use Rattle.std.specs.List.{flat_map}
use Rattle.cm_commands.specs.declared.command.Command.{Command}
use Rattle.cm_commands.specs.declared.command.Command.TheVariants as command
use Rattle.cm_world.specs.declared.event.Event.{Event}
use Rattle.cm_world.specs.declared.event.Event.TheVariants as event
use Rattle.cm_events.specs.declared.made.Made.{Made}
use Rattle.cm_events.specs.declared.made.Made.TheVariants as made
use Rattle.cm_events.specs.declared.simulation.Turn.{Turn}
use Rattle.cm_events.specs.declared.simulation.Simulation.{Simulation}
use Rattle.cm_events.specs.Asked.{EventAsked, event_of_line}
use Rattle.cm_events.specs.Made.{IsCommand, IsEvent, Comes, EachComes, AreOf, TakesLine, event_in}
use Rattle.cm_events.specs.Made.{turn_of, first_bad_from}

-- ---- only a request has a result

command_asked : (asked : Option EventAsked) (c : Command) → IsCommand asked c → is_some asked ≡ true
command_asked asked (command.AddLoader name) h = ap is_some h
command_asked asked (command.Define loader class) h = ap is_some h.asked_is
command_asked asked (command.Unload name) h = ap is_some h
command_asked asked (command.Tighten name) h = ap is_some h
command_asked asked (command.UnloadAll names) h = ap is_some h.asked_is

event_asked : (asked : Option EventAsked) (e : Event) → IsEvent asked e → is_some asked ≡ true
event_asked asked (event.Accept c) h = command_asked asked c h
event_asked asked event.Seal h = ap is_some h
event_asked asked event.Advance h = ap is_some h
event_asked asked event.Trim h = ap is_some h
event_asked asked event.Learn h = ap is_some h
event_asked asked (event.Look loader class) h = ap is_some h
event_asked asked (event.Fault stores) h = ap is_some h
event_asked asked event.Reopen h = ap is_some h
event_asked asked (event.Crash choice) h = ap is_some h

pub made_asked : (asked : Option EventAsked) (m : Made) → Comes asked m → is_some asked ≡ true
made_asked asked (made.Runs e) h = event_asked asked e h
made_asked asked (made.Refused r) h = ap is_some h.asked_is

-- ---- one more line

-- the results of the lines that are left are appended to what there is
abbrev pub TakesTheRest : List (List ℕ) → List (List ℕ) → List Event → List Turn → Type 0
TakesTheRest all left events turns =
    (more : List Made) → EachComes left more
    → AreOf all (events ++ flat_map event_in more) (turns ++ map turn_of more)

pub takes_more : (all left behind : List (List ℕ)) (line : List ℕ) (old new : Simulation)
    → left ≡ line ∷ behind → TakesTheRest all left old.events.items old.turns.items
    → TakesLine line old new → TakesTheRest all behind new.events.items new.turns.items
takes_more all left behind line old new left_is rest takes more each =
    let m = takes.taken in
    let both : EachComes (line ∷ behind) (m ∷ more) = (takes.comes, each) in
    let of = rest (m ∷ more) (subst (λ ls. EachComes ls (m ∷ more)) (sym left_is) both) in
    record {
      made = of.made;
      each = of.each;
      events_are =
          ap (λ es. es ++ flat_map event_in more) takes.events ∙ append_assoc old.events.items
          (event_in m) (flat_map event_in more) ∙ of.events_are;
      turns_are =
          ap (λ ts. ts ++ map turn_of more) takes.turns ∙ append_assoc old.turns.items
          (turn_of m ∷ []) (map turn_of more) ∙ of.turns_are;
    }

pub takes_none : (all left : List (List ℕ)) (events : List Event) (turns : List Turn) → left ≡ []
    → TakesTheRest all left events turns → AreOf all events turns
takes_none all left events turns left_is rest =
    let nothing : EachComes [] [] = tt in
    let of = rest [] (subst (λ ls. EachComes ls []) (sym left_is) nothing) in
    record {
      made = of.made;
      each = of.each;
      events_are = sym (append-nil events) ∙ of.events_are;
      turns_are = sym (append-nil turns) ∙ of.turns_are;
    }

-- ---- the first line of a wrong form

pub bad_behind : (n : ℕ) (left behind : List (List ℕ)) (line : List ℕ) (m : Made)
    → left ≡ line ∷ behind → Comes (event_of_line line) m
    → first_bad_from (n + 1) behind ≡ first_bad_from n left
bad_behind n left behind line m left_is comes =
    sym
    (ap (first_bad_from n) left_is ∙ ap (λ t. cond t (first_bad_from (n + 1) behind) (Some n))
    (made_asked (event_of_line line) m comes))
