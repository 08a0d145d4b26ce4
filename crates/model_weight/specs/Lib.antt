pub mod Capped
pub mod Clafers
pub mod Light
pub mod Measures
pub mod Refusals
pub mod Sums
