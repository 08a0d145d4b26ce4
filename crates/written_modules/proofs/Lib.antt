pub mod Added
pub mod Built
pub mod Expressions
pub mod Few
pub mod Items
pub mod Texts
pub mod Tokens
pub mod Whole
