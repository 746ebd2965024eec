pub mod Ordered
pub mod Links
