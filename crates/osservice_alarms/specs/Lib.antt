pub mod Alarms
pub mod Counters
