mod Each
pub mod Locks
pub mod Held
