mod Counted
mod PartsInOrder
mod Exact
mod ExactContents
-- A loop over the rows of an attribute: one more row, a row that is refused, and the end.
pub use Counted.{rows_goes_on, rows_refuse, rows_end}
