pub mod PlainModel
pub mod Refusals
