pub mod Paths
pub mod Largest
pub mod Refusals
pub mod Fitting
pub mod Steps
