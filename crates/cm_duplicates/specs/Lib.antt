pub mod Duplicates
pub mod Fingerprints
pub mod First
pub mod Interned
