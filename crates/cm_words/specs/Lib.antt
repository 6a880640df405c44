pub mod Buffer
pub mod Bytes
pub mod Ownership
pub mod Places
pub mod Words
