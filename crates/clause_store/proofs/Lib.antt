pub mod ResolutionSound
pub mod Bounds
