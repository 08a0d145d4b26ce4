pub mod Ranks
pub mod Supers
