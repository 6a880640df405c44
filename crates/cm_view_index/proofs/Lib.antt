mod Searching
mod Orders
mod Twins
-- A search in what is sorted by keys.
pub use Searching.{is_early, parted, found_there}
pub use Orders.{names_same}
