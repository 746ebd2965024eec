pub mod Faults
pub mod Ticks
