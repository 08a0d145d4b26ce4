pub mod Encoded
pub mod Operands
