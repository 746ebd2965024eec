pub mod Parsed
pub mod Usage
pub mod Subcommands
