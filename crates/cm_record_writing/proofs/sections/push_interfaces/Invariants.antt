use Rattle.std.proofs.Common.{◌≡◌, ◌++◌, drop}
use Rattle.cm_record_writing.proofs.sections.push_interfaces.Given as goal

abbrev pub invariant-loop-interface : goal.invariant-loop-interface
invariant-loop-interface l = record {
  added : l.words.words ++ drop l.interface-index l.interfaces ≡ l.fn.words.words ++ l.interfaces;
  capacity : l.words.capacity ≡ l.fn.words.capacity;
}
