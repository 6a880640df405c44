-- A gate: one byte that turns one fact on the contents into another.
use Rattle.std.specs.Prelude.{◌<◌, ◌⊎◌, ℕ, List, length, slice_set}

-- one fact or the other holds of the contents
pub record OneOf (P Q : List ℕ → Type 0) (contents : List ℕ) : Type 0 where
  pub which : P contents ⊎ Q contents

-- Whatever byte is at the gate, one of the two facts holds, and with this byte the second.
pub record Turns (P Q : List ℕ → Type 0) (gate byte : ℕ) (base : List ℕ) : Type 0 where
  pub inside : gate < length base
  pub either : (b : ℕ) → b < 256 → OneOf P Q (slice_set base gate b)
  pub last : Q (slice_set base gate byte)
