pub mod Places
pub mod Parts
pub mod Pool
pub mod Nested
