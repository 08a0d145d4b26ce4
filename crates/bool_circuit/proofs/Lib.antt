pub mod Values
pub mod Extending
pub mod Folding
