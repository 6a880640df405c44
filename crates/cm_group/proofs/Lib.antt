-- What crates above may cite of these proofs is what `pub use` passes on; all else is private.
mod Joining
-- How groups grow: by an entry, and by another group.
pub use Joining.{enough}
