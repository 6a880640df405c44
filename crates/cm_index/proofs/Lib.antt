-- What crates above may cite of these proofs is what `pub use` passes on; all else is private.
mod Tests
mod Joined
mod Sorted
mod Living
mod Indexes
mod Searching
mod Sweeping
mod Unloading
-- The live items of places that are joined, changed, swept and unloaded.
pub use Living.{living-append, living-push, living-swept, swept-live, length-swept, length-living}
pub use Living.{living-unloaded, living-moved}
-- An index over rows: what a search in it finds, and the index of rows that change.
pub use Indexes.{index-none, index-moved}
-- The index once a loader is unloaded, and names that differ.
pub use Unloading.{index-unloaded, unique-loader, unique-class, unique-without, unique-moved}
pub use Unloading.{unique-bare}
