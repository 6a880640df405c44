use Rattle.std.proofs.Common.{◌≡◌, drop}
use Rattle.std.specs.List.{list_all, AllByRecursion}
use Rattle.cm_commit.specs.Offers.{carries_own}
use Rattle.cm_commit.specs.Laws.{TellsWords}
use Rattle.cm_commit.proofs.joining.all_carry_own.Given as goal

abbrev pub invariant-loop-carried : goal.invariant-loop-carried
invariant-loop-carried l =
    record {
      own : list_all carries_own l.entries
          ≡ list_all carries_own (drop l.carried-index l.entries);
      told : AllByRecursion TellsWords (drop l.carried-index l.entries)
          → AllByRecursion TellsWords l.entries;
    }
