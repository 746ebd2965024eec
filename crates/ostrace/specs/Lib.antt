pub mod Gathers
pub mod Parts
pub mod Pieces
pub mod Schedules
pub mod Taken
