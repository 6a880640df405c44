use Rattle.std.proofs.Common.{◌≤◌}
use Rattle.cm_guards.specs.Calls.{Reads}
use Rattle.cm_disk_tests.proofs.reading.count_open.Given as goal

abbrev pub invariant-loop-slot : goal.invariant-loop-slot
invariant-loop-slot g l = record {
  few : l.open ≤ l.slot;
  reads : Reads g.D.Disk.view l.fn.disk l.disk ⊥;
}
