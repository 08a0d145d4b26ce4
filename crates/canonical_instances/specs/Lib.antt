pub mod Canonical
pub mod Exists
pub mod Renumbering
