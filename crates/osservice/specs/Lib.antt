pub mod Checks
pub mod Callers
pub mod Named
pub mod Returning
pub mod Service
pub mod Terms
