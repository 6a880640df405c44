-- What crates above may cite of these proofs is what `pub use` passes on; all else is private.
mod Candidates
mod RunsBack
mod Again
mod WholeRecord
mod Fronts
mod Turns
mod Taken
mod Counts
mod Spelled
mod TakenRecord
mod Skips
-- A run is read back.
pub use RunsBack.{run_again}
-- A whole record is read again.
pub use WholeRecord.{class_again}
-- Words from which something is read are its layout.
pub use Taken.{some_same}
-- A whole record from which a class is read is the layout of that class.
pub use TakenRecord.{class_taken}
