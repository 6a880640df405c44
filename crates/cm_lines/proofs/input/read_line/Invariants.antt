use Rattle.cm_lines.proofs.Reading.{LineSoFar}
use Rattle.cm_lines.proofs.input.read_line.Given as goal

abbrev pub invariant-pieces : goal.invariant-pieces
invariant-pieces g l =
    LineSoFar (g.R.Read.remaining l.fn.reader) (g.R.Read.remaining l.reader) l.line
