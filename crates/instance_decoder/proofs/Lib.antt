pub mod Adding
pub mod Filling
pub mod Noting
pub mod Spelling
pub mod Told
pub mod Widths
pub mod Worked
