pub mod Groups
pub mod Least
pub mod Apart
pub mod Laws
