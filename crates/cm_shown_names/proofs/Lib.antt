mod Places
mod Shows
mod Names
-- Bytes of a record show the name of its class; the bytes that such a record has.
pub use Shows.{shows}
