pub mod Bounded
pub mod Compared
pub mod Digits
pub mod Matched
pub mod Membered
pub mod Pushed
pub mod Ranges
mod Rows
pub mod Standing
pub mod Totalled
pub mod Weights
