pub mod Words
pub mod Report
pub mod Fronts
pub mod Model
pub mod Outcome
pub mod Run
pub mod Input
