pub mod Names
pub mod Fingerprints
pub mod Constants
pub mod Runs
pub mod Members
pub mod Code
pub use Rattle.cm_record_layout.specs.Packing
pub use Rattle.cm_record_layout.specs.Layout
