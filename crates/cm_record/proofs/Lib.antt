-- What crates above may cite of these proofs is what `pub use` passes on; all else is private.
mod Constants
mod RunPlaces
mod RunBytes
mod Orders
mod RunTests
mod MemberPlaces
mod AttributePlaces
mod Utf8Words
-- The runs of a class's Utf8, found in the words of its record.
pub use RunPlaces.{run_read, own_name}
