pub mod Schedules
pub mod Allowed
pub mod Served
