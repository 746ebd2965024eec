pub mod Border
pub mod Variables
pub mod Shutdown
