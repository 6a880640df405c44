use Rattle.std.proofs.Common.{◌≡◌, ◌++◌, take}
use Rattle.cm_lines.specs.Escapes.{escaped}
use Rattle.cm_lines.proofs.escape.escape_into.Given as goal

abbrev pub invariant-loop-byte : goal.invariant-loop-byte
invariant-loop-byte l = l.out.items ≡ l.fn.out.items ++ escaped (take l.byte-index l.name)
