-- Crates above may cite only those of these proofs that `pub use` passes on; all else is private.
mod Counting
mod Slots
mod Ranges
mod Places
mod Guards
mod Writing
mod Held
mod Rights
mod Gate
mod Records
mod Counted
mod MovedRecords
mod EntryRecords
mod Apart
mod Turning
mod NewHalves
mod Shutting
mod Reopened
mod Renewing
mod Renewals
mod Applied
mod Shown
mod With
mod NextRecords
mod SlotsPut
mod NextWrites
mod Committing
mod Journals
mod CheckpointCalls
mod Through
mod Advancing
mod Filled
mod Fitting
mod ClassNames
mod Roots
mod Trims
mod MovedOn
mod MovedWalk
mod Joins
mod Testing
mod Coming
mod Offering
-- The slots of the half that counts, with one more group.
pub use Slots.{end_is}
-- Where the records of rows that keep the rules lie: inside their chunks, one after another.
pub use Places.{inside}
-- Contents that match what is committed denote its cache.
pub use Shown.{shows_cache}
-- How many whole roots a file has that ends at the end of a root.
pub use Trims.{whole_used}
-- A move that keeps the rules, and which chunk was a loader's last one before it.
pub use MovedRecords.{MoveKeeps, keeps-move}
pub use MovedOn.{last-before, turned}
