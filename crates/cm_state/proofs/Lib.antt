-- What crates above may cite of these proofs is what `pub use` passes on; all else is private.
mod Maps
mod RowStates
mod Sizes
mod Differ
mod Leaving
mod EntrySteps
mod Folds
mod Gone
mod OneCache
mod Arenas
-- Finite maps from names.
pub use Maps.{got-insert}
-- What the state of rows holds, and how it changes with the rows.
pub use RowStates.{loader_found}
-- An entry that may follow is a step of the cache.
pub use EntrySteps.{entries_step}
