use Rattle.std.proofs.Common.{◌≡◌, ◌≤◌, length, take}
use Rattle.cm_commands.specs.Names.{names_kept}
use Rattle.cm_commands.proofs.names.Names.from_words.Given as goal

abbrev pub invariant-loop-word : goal.invariant-loop-word
invariant-loop-word l =
    record {
      room : length l.kept ≡ names_kept;
      few : l.count ≤ names_kept;
      count : l.count ≡ length l.yielded;
      words : take l.count l.kept ≡ l.yielded;
    }
