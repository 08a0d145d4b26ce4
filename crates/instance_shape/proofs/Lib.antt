pub mod Beyond
pub mod Counts
pub mod Numbers
pub mod Owners
pub mod Sets
