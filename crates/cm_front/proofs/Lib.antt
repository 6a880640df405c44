-- Crates above may cite only those of these proofs that `pub use` passes on; all else is private.
mod Chains
mod Tops
mod Places
mod Groups
mod Causes
mod RowFacts
mod Spaces
mod Goings
mod GoingsClass
mod NameNumbers
mod GoingsUnload
mod GoingsMove
mod Answering
mod Learning
mod Adopting
mod Taking
-- A place that a space finds, whose arenas are those of the rows, is one that the entry rules
-- allow.
pub use Places.{used-with-root, fetched_free, free-apart, some-top}
-- How one more row, or one loader less, changes what rows say.
pub use RowFacts.{classes_left}
