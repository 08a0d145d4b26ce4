pub mod Causes
pub mod Once
pub mod Ranges
pub mod Sizes
pub mod Untree
pub mod Writing
