pub mod Agree
pub mod Forming
pub mod Lists
pub mod Numbers
pub mod Quantified
mod Rows
pub mod Sets
pub mod Setting
pub mod Steps
