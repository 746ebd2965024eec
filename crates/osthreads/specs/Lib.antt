pub mod Runs
pub mod Threads
