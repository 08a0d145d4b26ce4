pub mod Refusals
pub mod Head
pub mod Points
pub mod Texts
pub mod Summary
