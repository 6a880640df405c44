use Rattle.std.proofs.Common.{◌≡◌, ◌≤◌, ◌++◌, length, map}
use Rattle.cm_stream.specs.Stream.{stream_of, AllFit}
use Rattle.cm_stream.proofs.stream.split.Given as goal

-- the classes so far, and the bytes that are left
abbrev pub invariant-loop-rest : goal.invariant-loop-rest
invariant-loop-rest l =
    record {
      fit : AllFit (map (λ class. class.now) l.classes.items);
      whole : l.bytes ≡ stream_of (map (λ class. class.now) l.classes.items) ++ l.rest;
      within : length l.rest ≤ length l.bytes;
    }

abbrev pub decreases-loop-rest : goal.decreases-loop-rest
decreases-loop-rest l = length l.rest
