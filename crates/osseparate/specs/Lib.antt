pub mod Separate
pub mod Flags
