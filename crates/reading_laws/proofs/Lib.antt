pub mod Scopes
pub mod Unrefused
pub mod Wide
