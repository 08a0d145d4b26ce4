pub mod Literals
pub mod Kept
pub mod Store
pub mod Satisfaction
pub mod Resolution
