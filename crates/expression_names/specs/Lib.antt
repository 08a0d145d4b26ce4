pub mod LookedUp
pub mod Models
pub mod Scopes
