-- Crates above may cite only those of these proofs that `pub use` passes on; all else is private.
mod Following
mod Tops
mod Used
mod Accepted
mod Handed
mod Carried
mod Classes
mod Causes
mod Making
mod Fronts
mod Changes
-- Rows with classes, and the same rows with the words of their records.
pub use Classes.{bare_words}
-- The rows after two runs of entries, and an entry that was accepted.
pub use Following.{rows_after_two, follow_two}
pub use Accepted.{filled_again}
