pub mod Agreement
pub mod Matches
pub mod Pairs
pub mod Renamings
pub mod Shapes
pub mod Shuffles
pub mod Values
