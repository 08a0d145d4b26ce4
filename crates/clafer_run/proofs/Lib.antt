pub mod Answered
pub mod Halting
pub mod Known
pub mod Sums
