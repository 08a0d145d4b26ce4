pub mod Gaps
pub mod Searched
pub mod Searching
