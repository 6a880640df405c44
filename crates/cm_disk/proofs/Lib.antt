-- What crates above may cite of these proofs is what `pub use` passes on; all else is private.
mod Images
mod Elapsed
mod Choices
-- Which images are images of a state with more unsynced.
pub use Images.{false_before, torn_same, after_write, untouched_torn, overwritten_torn, uncut}
-- How time passes over one call of an in-memory disk, which records a moment before it changes its
-- bytes.
pub use Elapsed.{elapses_write, elapses_cut, elapses_sync, wider, narrow}
