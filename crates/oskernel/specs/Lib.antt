pub mod Operations
pub mod Step
pub mod Wants
pub mod Bounded
pub mod Taking
