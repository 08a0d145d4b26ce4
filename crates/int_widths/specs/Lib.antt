pub mod Narrow
pub mod Weight
