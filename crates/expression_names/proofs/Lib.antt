mod Binding
pub mod Going
pub mod Rows
pub mod Variables
