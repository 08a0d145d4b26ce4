pub mod Behind
pub mod Guarded
pub mod Rows
pub mod Steps
pub mod Told
pub mod Weighed
