use Rattle.std.proofs.Common.{◌≡◌, drop}
use Rattle.cm_events.specs.Numbers.{number_from}
use Rattle.cm_events.proofs.number.number_in.Given as goal

-- the digits that are left are appended to the number so far
abbrev pub invariant-loop-byte : goal.invariant-loop-byte
invariant-loop-byte l = number_from l.number (drop l.byte-index l.word) ≡ number_from 0 l.word
