use Rattle.crossbeam_channel.specs.Ends.{sends_on}
use Rattle.cm_cache.specs.Channel.{channel_of}
use Rattle.cm_cache.specs.Starting.{base_of}
use Rattle.cm_cache_tests.proofs.two_threads.an_end_is_received_and_answered.Given as goal

-- the channel and the Board that were just made
abbrev pub ghosts-send_end-K-Naming : goal.ghosts-send_end-K-Naming
ghosts-send_end-K-Naming g a = record {
  base = base_of a.committer;
  channel = channel_of (sends_on a.channel.sender);
  board = a.board.table.shared.table_id;
  failed = 0;
  passes = 0;
}
