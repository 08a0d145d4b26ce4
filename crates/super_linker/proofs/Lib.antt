pub mod Falling
pub mod Linked
pub mod Names
pub mod Refused
