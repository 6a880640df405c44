use Rattle.std.proofs.Common.{◌≡◌, take, drop}
use Rattle.std.specs.List.{All}
use Rattle.cm_device_disk.specs.Runs.{TellsWords, with_runs}
use Rattle.cm_device_disk.specs.State.{opened_state}
use Rattle.cm_device_disk.proofs.history.History.of_opened.Given as goal

abbrev pub invariant-loop-run : goal.invariant-loop-run
invariant-loop-run l = record {
  opened : l.history.state ≡ opened_state l.history.state.now.bytes;
  bytes : with_runs (drop l.run-index l.runs) l.history.state.now.bytes
      ≡ with_runs l.runs l.initial.history.state.now.bytes;
  told : All TellsWords (take l.run-index l.runs);
}
