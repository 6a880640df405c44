-- What crates above may cite of these proofs is what `pub use` passes on; all else is private.
mod Classes
mod Loaders
mod KeptPlaces
mod Linking
mod Moving
mod Stopping
mod Backward
mod Holding
mod RowFacts
mod Changes
mod Giving
mod Ending
mod Verdicts
mod Books
mod Placed
mod ClassPlaces
mod Above
-- Numbers of commands are above those of all live loaders.
pub use Above.{above_row, above_entry}
-- The classes of rows after a move: those on the old chunk are on the new one.
pub use Classes.{moved_class}
pub use RowFacts.{classes-moved}
