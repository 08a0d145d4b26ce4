pub mod Ends
pub mod Once
pub mod Runs
pub mod Steps
