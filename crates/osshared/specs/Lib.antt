pub mod Histories
pub mod Seats
pub mod Views
pub mod Calls
pub mod Runs
