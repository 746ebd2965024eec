pub mod Requests
pub mod Fits
pub mod Reports
pub mod Groups
pub mod Sound
pub mod Ends
pub mod CoreRuns
