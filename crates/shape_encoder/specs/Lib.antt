pub mod Comparing
pub mod Counting
pub mod Demanding
pub mod Placing
pub mod Reading
pub mod Taking
