pub mod Gathering
pub mod Leaves
pub mod Listing
pub mod Tables
