-- The state of a disk over a device.
use Rattle.std.specs.Prelude.{◌+◌, ◌^◌, ℕ, List, [], ◌∷◌, ◌++◌, length, min, max}
use Rattle.cm_disk.specs.Disk.{Unsynced, IsSound}
use Rattle.cm_disk.specs.Moments.{Moment, unsynced_of}

-- what the disk holds, the moments that it has had, the newest first, and how often the device has
-- failed
pub record DiskState : Type 0 where
  pub now : Moment
  pub moments : List Moment
  pub failures : ℕ

abbrev pub moment_unsynced : Moment → Unsynced
moment_unsynced moment = unsynced_of moment.ranges moment.least moment.greatest

abbrev pub IsSoundState : DiskState → Type 0
IsSoundState state = IsSound state.now.bytes (moment_unsynced state.now)

-- all bytes are durable
abbrev pub stored : List ℕ → Moment
stored bytes = record {
  bytes = bytes;
  ranges = [];
  least = length bytes;
  greatest = length bytes;
}

-- none of the bytes is known to be durable
abbrev pub unsure : List ℕ → Moment
unsure bytes = record {
  bytes = bytes;
  ranges = record { start = 0; end = 2 ^ 40 } ∷ [];
  least = 0;
  greatest = 2 ^ 40;
}

-- a device of these bytes was opened
abbrev pub opened_state : List ℕ → DiskState
opened_state bytes = record { now = unsure bytes; moments = []; failures = 0 }

-- a write of n bytes was begun
abbrev pub opened : ℕ → ℕ → Moment → Moment
opened at n moment = record moment {
  ranges = moment.ranges ++ record { start = at; end = at + n } ∷ [];
  greatest = max moment.greatest (at + n);
}

-- a cut to a length was begun
abbrev pub lowered : ℕ → Moment → Moment
lowered len moment = record moment { least = min moment.least len }

-- a call failed and changed nothing
abbrev pub refused : DiskState → DiskState
refused state = record state { failures = state.failures + 1 }

-- an empty device
abbrev pub no_bytes : DiskState
no_bytes = record { now = stored []; moments = []; failures = 0 }
