use Rattle.std.proofs.Common.{length}
use Rattle.cm_guards.specs.Calls.{Reads}
use Rattle.cm_verdict.proofs.RecordRows.{IsTaking}
use Rattle.cm_verdict.proofs.second_pass.SecondPass.take_words.Given as goal

abbrev pub invariant-loop-row : goal.invariant-loop-row
invariant-loop-row g l = record {
  reads : Reads g.D.Disk.view l.fn.disk l.disk ⊥;
  taking : IsTaking l.self.geometry (g.D.Disk.view.contents l.fn.disk) l.self.number l.found.rows
      l.left l.records.items;
}

abbrev pub decreases-loop-row : goal.decreases-loop-row
decreases-loop-row g l = length l.left
