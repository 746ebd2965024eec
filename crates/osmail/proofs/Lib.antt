pub mod Boxes
pub mod Counts
pub mod Left
pub mod Steps
pub mod Through
pub mod Making
pub mod Chosen
