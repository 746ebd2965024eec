pub mod Actions
pub mod Points
pub mod Terms
