pub mod Filling
pub mod Finding
pub mod Grouping
pub mod Inheriting
pub mod Reaching
pub mod Stepping
pub mod Summing
