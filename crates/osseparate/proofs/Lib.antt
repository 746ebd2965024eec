pub mod Starting
pub mod Reached
pub mod Distinct
pub mod Separating
pub mod Cutting
