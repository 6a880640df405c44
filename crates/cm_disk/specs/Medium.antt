-- The moment that a medium is at.
use Rattle.cm_disk.specs.declared.medium.Medium.{Medium}
use Rattle.cm_disk.specs.Disk.{Unsynced}
use Rattle.cm_disk.specs.Moments.{Moment, unsynced_of}

abbrev pub moment_of : Medium → Moment
moment_of medium = record {
  bytes = medium.bytes.items;
  ranges = medium.ranges.items;
  least = medium.least;
  greatest = medium.greatest;
}

abbrev pub medium_unsynced : Medium → Unsynced
medium_unsynced medium = unsynced_of medium.ranges.items medium.least medium.greatest
