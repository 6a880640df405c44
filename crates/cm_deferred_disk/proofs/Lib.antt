-- What crates above may cite of these proofs is what `pub use` passes on; all else is private.
mod Listing
pub use Listing.{lost_stays, list_goes_on}
