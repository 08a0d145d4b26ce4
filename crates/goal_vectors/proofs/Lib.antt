pub mod Truths
pub mod Singles
pub mod Vectors
pub mod Sequence
pub mod Items
pub mod Fronts
pub mod Left
pub mod Rows
