mod Kept
mod RowNames
mod Takings
mod Walked
mod Listings
mod Exact
mod Standing
mod Cache
mod Opened
-- Answers of a view, for crates above.
pub use Cache.{not_both, none_in, none_told, answer_of}
