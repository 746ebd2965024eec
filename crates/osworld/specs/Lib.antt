pub mod World
pub mod Runs
pub mod Answering
pub mod Playing
