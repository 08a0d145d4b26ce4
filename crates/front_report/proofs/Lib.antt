pub mod Lines
pub mod Reasons
pub mod Totals
pub mod Rows
