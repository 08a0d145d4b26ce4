pub mod Choices
pub mod Conditions
pub mod Light
pub mod Lowered
pub mod Numberless
