pub mod Readings
pub mod State
pub mod Steps
pub mod Sound
pub mod Queries
pub mod Does
