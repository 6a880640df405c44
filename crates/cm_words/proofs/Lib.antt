-- What crates above may cite of these proofs is what `pub use` passes on; all else is private.
mod BlockLayout
mod Crosses
mod Filled
mod Memory
mod Sharing
mod WordBytes
-- Words written one by one, and read.
pub use WordBytes.{length-word_bytes, length-packed_into, word_same, word_back}
