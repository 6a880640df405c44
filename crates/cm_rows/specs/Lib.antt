pub mod Rows
pub mod Loaders
pub mod Links
pub mod Places
pub mod Held
pub mod Placing
pub mod LiveRows
