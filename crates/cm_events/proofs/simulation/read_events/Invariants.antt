use Rattle.std.proofs.Common.{◌≡◌, ◌+◌, ◌≤◌, ◌++◌, List, length}
use Rattle.std.specs.Prelude.{map}
use Rattle.std.specs.List.{flat_map}
use Rattle.cm_lines.specs.Lines.{lines_of}
use Rattle.cm_events.specs.declared.made.Made.{Made}
use Rattle.cm_events.specs.Made.{EachComes, AreOf, first_bad_from, event_in, turn_of}
use Rattle.cm_events.proofs.simulation.read_events.Given as goal

-- the results of the lines that are left are appended to what there is
abbrev pub invariant-lines : goal.invariant-lines
invariant-lines l = record {
  geometry : l.simulation.geometry ≡ l.fn.geometry;
  counted : l.number + length l.rest ≤ length l.text + 1;
  events : (more : List Made) → EachComes (lines_of l.rest) more
      → AreOf (lines_of l.text) (l.simulation.events.items ++ flat_map event_in more)
      (l.simulation.turns.items ++ map turn_of more);
  bad : first_bad_from (l.number + 1) (lines_of l.rest) ≡ first_bad_from 2 (lines_of l.text);
}

abbrev pub decreases-lines : goal.decreases-lines
decreases-lines l = length l.rest
