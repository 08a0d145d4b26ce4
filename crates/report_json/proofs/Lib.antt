pub mod Ascii
pub mod Parts
pub mod Texts
