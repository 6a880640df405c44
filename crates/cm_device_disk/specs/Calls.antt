-- How a call on a device changes the state of its disk.
use Rattle.std.specs.Prelude.{◌≡◌, ◌≤◌, ◌+◌, ℕ, List, ◌∷◌, length, take}
use Rattle.cm_disk.specs.Disk.{IsBytes}
use Rattle.cm_disk.specs.Calls.{overwritten, IsTorn, IsCut}
use Rattle.cm_disk.specs.Moments.{Moment}
use Rattle.cm_device_disk.specs.declared.history.Call.{Call}
use Rattle.cm_device_disk.specs.declared.history.Call.TheVariants.{Opened, ReadOn, Wrote}
use Rattle.cm_device_disk.specs.declared.history.Call.TheVariants.{NotWritten, Cut, NotCut, Synced}
use Rattle.cm_device_disk.specs.declared.history.Call.TheVariants.{Failed}
use Rattle.cm_device_disk.specs.State.{DiskState, opened_state, stored, opened, lowered}

-- a device had this length when it was opened, and began with these bytes
pub record IsOpenedAs (len : ℕ) (beginning contents : List ℕ) : Type 0 where
  pub begins : take (length beginning) contents ≡ beginning
  pub length_is : length contents ≡ len

-- The bytes that a call leaves, given the old ones. Of an opened device only the first bytes are
-- known, and the words that were read; after a failed write or cut the bytes are not known.
abbrev pub CallLeaves : Call → List ℕ → List ℕ → List ℕ → Type 0
CallLeaves (Opened len) bytes old left =
    (length bytes ≤ len → IsOpenedAs len bytes left) × (IsBytes bytes → IsBytes left)
CallLeaves (ReadOn at) bytes old left = left ≡ overwritten at bytes old
CallLeaves (Wrote at) bytes old left = left ≡ overwritten at bytes old
CallLeaves (NotWritten at) bytes old left =
    IsTorn at (length bytes) old left × (IsBytes old → IsBytes left)
CallLeaves (Cut len) bytes old left = left ≡ take len old
CallLeaves (NotCut len) bytes old left = len ≤ length old → IsCut len old left
CallLeaves Synced bytes old left = left ≡ old
CallLeaves Failed bytes old left = left ≡ old

-- the device went through a moment, at which a crash may have left it, to other bytes
abbrev pub gone : Moment → List ℕ → DiskState → DiskState
gone during left old = record {
  now = record during { bytes = left };
  moments = during ∷ old.moments;
  failures = old.failures;
}

-- the state after a call that left these bytes
abbrev pub after : Call → List ℕ → List ℕ → DiskState → DiskState
after (Opened len) bytes left old = opened_state left
after (ReadOn at) bytes left old = opened_state left
after (Wrote at) bytes left old = gone (opened at (length bytes) old.now) left old
after (NotWritten at) bytes left old =
    record (gone (opened at (length bytes) old.now) left old) { failures = old.failures + 1 }
after (Cut len) bytes left old = gone (lowered len old.now) left old
after (NotCut len) bytes left old =
    record (gone (lowered len old.now) left old) { failures = old.failures + 1 }
after Synced bytes left old = record (gone old.now left old) { now = stored left }
after Failed bytes left old = record old { failures = old.failures + 1 }

-- a call leads from a state to the next
pub record CallFollows (call : Call) (bytes : List ℕ) (old new : DiskState) : Type 0 where
  pub left : CallLeaves call bytes old.now.bytes new.now.bytes
  pub state : new ≡ after call bytes new.now.bytes old
