-- Writes that are still to be made.
use Rattle.std.specs.Prelude.{◌≤◌, ◌+◌, ◌^◌, ℕ, max, List, [], ◌∷◌, length}
use Rattle.cm_disk.specs.Calls.{overwritten}
use Rattle.cm_guards.specs.Guards.{Guard, IsApart}

pub record Write : Type 0 where
  pub at : ℕ
  pub bytes : List ℕ

-- the contents once all writes are made
abbrev pub written : List Write → List ℕ → List ℕ
written [] contents = contents
written (w ∷ writes) contents = written writes (overwritten w.at w.bytes contents)

-- a disk of this length accepts the write, which touches nothing that is guarded
pub record WriteFits (g : Guard) (w : Write) (len : ℕ) : Type 0 where
  pub starts_within : w.at ≤ len
  pub within_limit : w.at + length w.bytes ≤ 2 ^ 40
  pub apart : IsApart g w.at (length w.bytes)

-- a disk of this length accepts the writes one after another
abbrev pub CanWrite : Guard → List Write → ℕ → Type 0
CanWrite g [] len = Unit {0}
CanWrite g (w ∷ writes) len = WriteFits g w len
    × CanWrite g writes (max len (w.at + length w.bytes))
