pub mod Within
pub mod Counting
pub mod Deciding
