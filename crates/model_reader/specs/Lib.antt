pub mod Texts
pub mod Models
pub mod Ranges
pub mod Reading
