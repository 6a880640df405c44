-- Crates above may cite only those of these proofs that `pub use` passes on; all else is private.
mod Queued
mod Learnt
mod Past
mod Commands
mod Handing
mod Shown
mod Stepping
mod Reopened
mod Stored
mod Committed
-- What a crash may leave of a session's disk.
pub use Shown.{leaves_so}
-- What is under way.
pub use Stepping.{none_under}
