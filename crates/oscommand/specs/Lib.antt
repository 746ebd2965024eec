pub mod CommandLine
pub mod Entries
pub mod Jobs
