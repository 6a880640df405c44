-- What crates above may cite of these proofs is what `pub use` passes on; all else is private.
mod Readers
mod Fields
mod Lists
mod PoolLaws
mod Classes
mod Loops
mod Walks
mod InPlace
mod Sinks
mod Shapes
-- What is known of a reader of one part: what it says about any bytes, and that it reads a spelling
-- whatever bytes follow. And how readers in sequence keep this.
pub use Readers.{AreBytes-rest}
-- The readers of numbers, of lists of bytes and of fixed bytes.
pub use Fields.{AreBytes-at}
-- The readers of tags, constants and the pool.
pub use PoolLaws.{number_is}
-- From what the reader of a class file says to what holds for all the bytes.
pub use Shapes.{one_answer}
