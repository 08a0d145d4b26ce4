pub mod Bytes
pub mod Cuts
pub mod Layout
pub mod Order
pub mod Pieces
pub mod Places
pub mod Rows
