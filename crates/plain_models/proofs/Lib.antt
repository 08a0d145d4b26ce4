pub mod Keeping
pub mod ParentsFirst
pub mod Standing
