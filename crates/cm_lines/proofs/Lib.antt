-- Crates above may cite only those of these proofs that `pub use` passes on; all else is private.
mod Cuts
mod Reading
mod Writing
mod Taking
mod WorkedExamples
mod LineLaws
mod EscapeLaws
-- Texts that are cut at a byte.
pub use Cuts.{pieces_cut, pieces_none, pieces_some}
-- A line that is read in pieces.
pub use Reading.{lines_cut, lines_last}
