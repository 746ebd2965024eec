pub mod Acts
pub mod Seen
pub mod Runs
pub mod Laws
pub mod Steps
