pub mod FirstWay
pub mod Levels
pub mod LookUp
pub mod Marks
pub mod Meaning
pub mod Outwards
pub mod Steps
pub mod Ways
