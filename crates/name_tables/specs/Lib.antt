pub mod Children
pub mod Labels
pub mod Tables
