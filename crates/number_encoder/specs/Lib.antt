pub mod Comparing
pub mod Costs
pub mod Values
