pub mod Steps
mod Moves
mod Gathers
pub mod Thins
pub mod Runs
