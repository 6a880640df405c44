use Rattle.cm_lines.proofs.Writing.{WrittenBut}
use Rattle.cm_lines.proofs.output.write_whole.Given as goal

abbrev pub invariant-writes : goal.invariant-writes
invariant-writes g l =
    WrittenBut (g.W.Write.contents l.fn.writer) (g.W.Write.contents l.writer) l.text l.rest
