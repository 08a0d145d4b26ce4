pub mod Gapping
pub mod Small
pub mod Telling
pub mod Climbing
pub mod Placing
pub mod Ending
