pub mod Ranges
pub mod Filling
pub mod Sums
pub mod Members
pub mod Changed
pub mod Own
