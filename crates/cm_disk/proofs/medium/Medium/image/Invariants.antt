use Rattle.std.proofs.Common.{◌≡◌, length}
use Rattle.cm_disk.specs.Chosen.{loose_before}
use Rattle.cm_disk.specs.Medium.{medium_unsynced}
use Rattle.cm_disk.proofs.Choices.{AllChosen}
use Rattle.cm_disk.proofs.medium.Medium.image.Given as goal

abbrev pub invariant-loop-at : goal.invariant-loop-at
invariant-loop-at l = record {
  size : length l.image.items ≡ l.at;
  filled : l.filled ≡ loose_before (medium_unsynced l.self) l.at;
  bytes : AllChosen l.self.bytes.items (medium_unsynced l.self) l.choice.fill.items l.image.items;
}
