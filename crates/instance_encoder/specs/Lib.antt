pub mod Shaping
pub mod Wiring
