pub mod Counting
pub mod Cutting
pub mod Emptiness
pub mod Ends
pub mod Filling
pub mod Joining
pub mod Living
pub mod Loops
mod Worked
