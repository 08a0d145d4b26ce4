pub mod Carried
pub mod Causes
pub mod Facts
pub mod KnownModel
pub mod LooksUp
pub mod Rows
