pub mod Implied
pub mod Packing
pub mod Tables
pub mod Worked
