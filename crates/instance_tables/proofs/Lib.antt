pub mod Numbering
pub mod Placing
pub mod Renamed
pub mod Swapped
