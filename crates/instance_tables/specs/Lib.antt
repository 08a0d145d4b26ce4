pub mod Below
pub mod Children
pub mod Slots
pub mod Tables
