-- What crates above may cite of these proofs is what `pub use` passes on, the laws on held chunks
-- and free words (`SpaceLaws`), and those on blocks (`Dyadic`, `Places`); all else is private.
mod Lists
pub mod Dyadic
mod Marks
mod Trees
mod FreeWords
mod Spaces
pub mod Places
mod Pools
mod Emptiness
mod Firsts
mod ChunkLaws
mod HeldFacts
mod Largest
mod NoneLost
pub mod SpaceLaws
mod BitFacts
mod SameChunks
-- Laws on lists: what holds for each element, or for each pair, and which elements are in a list.
pub use Lists.{each-weaker, each-among, each-join, each-front, each-back, pairs-front, pairs-back}
pub use Lists.{pairs-insert, pairs-remove, pairs-before, pairs-behind, pairs-among, among-at}
pub use Lists.{among-left, among-right, among-append, among-push, among-map, among-map_from}
pub use Lists.{among-filter, among-filter_from}
-- What is free after a change, and that what is free determines a pool's value.
pub use FreeWords.{number-order, range-decides, words-decides, free-with_chunk, free-with_root}
pub use FreeWords.{same_numbers, chunk-word}
-- No word is lost if chunks are taken and given back, and roots added.
pub use NoneLost.{none_lost-given}
-- When two chunks are the same, by the test on them, and that sharing words is symmetric.
pub use SameChunks.{same_chunk-true, same_chunk-itself, same_chunk-is, same_chunk-cases}
pub use SameChunks.{same_chunk-false, meets-turned, meets-itself}
