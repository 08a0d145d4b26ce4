pub mod Asked
pub mod Computed
pub mod Forms
pub mod Parts
pub mod Sources
pub mod Values
