-- What becomes of a handle that is used in a call.
use Rattle.std.specs.Prelude.{◌≡◌, ℤ, pos, Bool, false}

-- A handle that is used stays full or empty, and an empty one is refused.
pub record IsUsed (old new : Bool) (status : ℤ) : Type 0 where
  pub stays : new ≡ old
  pub refused : old ≡ false → status ≡ pos 25
