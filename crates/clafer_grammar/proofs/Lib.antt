pub mod Levels
pub mod Complete
pub mod Begun
pub mod Heading
pub mod Builds
pub mod Sound
pub mod Viable
pub mod Exact
