pub mod Interrupts
pub mod Tasks
pub mod Resources
pub mod Events
