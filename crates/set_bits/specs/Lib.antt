pub mod Counts
pub mod Fitting
pub mod Merging
pub mod Reaching
pub mod Sets
pub mod Showing
