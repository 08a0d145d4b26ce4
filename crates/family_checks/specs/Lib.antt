pub mod Families
pub mod Heights
pub mod Marks
pub mod Tours
