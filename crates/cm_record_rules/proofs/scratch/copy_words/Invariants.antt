use Rattle.std.proofs.Common.{◌≡◌, ◌*◌, ◌++◌, take, drop}
use Rattle.cm_record_layout.specs.Packing.{word_bytes}
use Rattle.cm_record_rules.proofs.scratch.copy_words.Given as goal

abbrev pub invariant-loop-i : goal.invariant-loop-i
invariant-loop-i l = l.out ≡ word_bytes (take l.i l.words) ++ drop (8 * l.i) l.fn.out
