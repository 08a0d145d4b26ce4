pub mod Counts
pub mod Joined
