-- The sizes of a region: what a `Geometry` holds, and the limits that it keeps.
-- The numbers are this project's own.
use Rattle.std.specs.Prelude.{ℕ, ◌≤◌}

-- a root chunk has 128 * 2 ^ top words; there are up to `roots` of them, and `slots` slots in each
-- half of the journal
pub record Sizes : Type 0 where
  pub top : ℕ
  pub roots : ℕ
  pub slots : ℕ

-- the sizes are within the limits
pub record IsGeometry (sizes : Sizes) : Type 0 where
  pub top_from : 3 ≤ sizes.top
  pub top_to : sizes.top ≤ 12
  pub roots_from : 1 ≤ sizes.roots
  pub roots_to : sizes.roots ≤ 256
  pub slots_from : 256 ≤ sizes.slots
  pub slots_to : sizes.slots ≤ 65536
