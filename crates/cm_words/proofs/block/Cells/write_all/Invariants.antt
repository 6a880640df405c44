use Rattle.std.proofs.Common.{◌≡◌, ◌+◌, ◌++◌, take, drop, map, Some}
use Rattle.cm_words.proofs.block.Cells.write_all.Given as goal

abbrev pub invariant-loop-i : goal.invariant-loop-i
invariant-loop-i g l = record {
  base : l.base.ptr ≡ l.self.at;
  place : l.self.at ≡ l.fn.self.at;
  slots : l.self.slots ≡ take l.from l.fn.self.slots ++ map Some (take l.i l.items)
      ++ drop (l.from + l.i) l.fn.self.slots;
}
