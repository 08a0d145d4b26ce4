pub mod Declarations
pub mod Expressions
pub mod Machine
pub mod Modules
pub mod Operators
pub mod Symbols
pub mod Trees
