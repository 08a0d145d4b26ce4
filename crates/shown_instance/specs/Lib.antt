pub mod Bounds
pub mod Consistent
pub mod Distinct
pub mod Packed
pub mod Placed
pub mod Shaped
pub mod Shown
