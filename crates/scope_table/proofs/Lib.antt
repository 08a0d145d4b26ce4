pub mod Endings
pub mod Adding
pub mod ClaferByClafer
pub mod Rounds
pub mod Tables
pub mod Firsts
pub mod Lists
pub mod Small
