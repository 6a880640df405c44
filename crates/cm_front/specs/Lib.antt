pub mod Chains
pub mod Laws
pub mod Front
pub mod Accepting
pub mod Unsealed
pub mod Refusing
pub mod Restoring
pub mod Arenas
