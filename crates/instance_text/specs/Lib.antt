pub mod Lines
pub mod Names
pub mod Placed
pub mod Read
pub mod Reading
pub mod Show
