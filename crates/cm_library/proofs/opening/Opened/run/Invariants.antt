use Rattle.crossbeam_channel.specs.Ends.{sends_on}
use Rattle.cm_cache.specs.Channel.{channel_of}
use Rattle.cm_cache.specs.Starting.{base_of}
use Rattle.cm_library.proofs.opening.Opened.run.Given as goal

-- what was just opened, with what was made for it
abbrev pub ghosts-run_alone-K-Naming : goal.ghosts-run_alone-K-Naming
ghosts-run_alone-K-Naming g a = record {
  base = base_of a.storage;
  channel = channel_of (sends_on a.new.channel.sender);
  board = a.new.board.table.shared.table_id;
  failed = g.D.Disk.view.failures a.storage.disk;
  passes = a.new.passes;
}

abbrev pub ghosts-run_alone-K-Ledger : goal.ghosts-run_alone-K-Ledger
ghosts-run_alone-K-Ledger g a = record { name = a.new.ledger.name; parts = a.new.ledger.parts }
