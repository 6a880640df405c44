pub mod Laid
pub mod Parts
pub mod Kept
pub mod Marked
pub mod Plain
