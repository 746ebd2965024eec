pub mod Counts
pub mod Places
pub mod Words
pub mod Ticks
mod LockTicks
