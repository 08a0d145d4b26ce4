pub mod Leaving
pub mod Resolved
