pub mod TreeOrder
pub mod Json
pub mod Data
pub mod Commas
