pub mod Tuples
pub mod Passing
