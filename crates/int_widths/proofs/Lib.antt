pub mod Clamps
pub mod Firsts
pub mod Rows
pub mod ScopeSums
