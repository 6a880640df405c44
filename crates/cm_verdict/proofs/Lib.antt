-- Crates above may cite only those of these proofs that `pub use` passes on; all else is private.
mod Decoded
mod Turns
mod Placed
mod Walks
mod WalksBack
mod Heads
mod Parts
mod Contents
mod KeptRecords
mod Goings
mod Halves
mod Readings
mod RecordPlaces
mod RecordRows
mod RecordRanges
mod Verdicts
mod Passing
mod Shared
mod Assembled
-- What rows with the words of their records are without them.
pub use Parts.{bare_words}
-- The place of a live row, and that its record is no longer than any may be.
pub use RecordPlaces.{place_of, short_enough}
-- Rows whose records give their names, with one more.
pub use Passing.{more_named}
-- The verdict, step by step, and the result for it.
pub use Verdicts.{fault_told}
-- Runs of reads, and the fault that they return.
pub use Readings.{ok_no_fault, no_more, passed_on}
