-- Crates above may cite only those of these proofs that `pub use` passes on; all else is private.
mod Shut
mod Empty
mod Gate
mod Unfinished
mod SyncRuns
mod Opened
mod MovedOver
-- What a file stands for has all that the accepted cache and its committer are made from.
pub use Opened.{are_short, opened}
