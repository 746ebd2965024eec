pub mod Turns
pub mod Settings
pub mod Expiries
