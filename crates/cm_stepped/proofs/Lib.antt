-- What crates above may cite of these proofs is what `pub use` passes on; all else is private.
mod Behind
mod Asking
mod Listing
